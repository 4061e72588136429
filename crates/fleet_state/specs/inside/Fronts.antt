-- The flat list that spares a look at the queues.
use Rattle.std.specs.Prelude.{ℕ, ◌≡◌, List, Some, length, slice_get, slice_index}
use Rattle.fleet_queue.specs.declared.errand.Errand.{Errand}
use Rattle.fleet_queue.specs.Queue.{Queue}
use Rattle.fleet_state.specs.Robots.{queue_at}

-- by robot the cell of its first errand, and any where it has none
pub record AreFronts (queues : List Queue) (fronts : List ℕ) : Type 0 where
  pub count : length fronts ≡ length queues
  pub cells : (r : ℕ) (f : Errand) → slice_get (queue_at queues r).items 0 ≡ Some f → slice_index fronts r ≡ f.cell
