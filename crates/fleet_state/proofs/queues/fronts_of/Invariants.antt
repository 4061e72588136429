use Rattle.std.proofs.Common.{◌≡◌, ◌<◌, ℕ, Some, length}
use Rattle.std.specs.Prelude.{slice_get, slice_index}
use Rattle.fleet_queue.specs.declared.errand.Errand.{Errand}
use Rattle.fleet_state.specs.Robots.{queue_at}
use Rattle.fleet_state.proofs.queues.fronts_of.Given as goal

abbrev pub invariant-loop-r : goal.invariant-loop-r
invariant-loop-r g l = record {
  count : length l.fronts.items ≡ l.r;
  cells : (k : ℕ) (f : Errand) → k < l.r → slice_get (queue_at l.queues k).items 0 ≡ Some f → slice_index l.fronts.items k ≡ f.cell;
}
