-- What a world goes on with, part by part.
use Rattle.std.specs.Prelude.{◌≡◌, None, map}
use Rattle.fleet_grid.specs.Floor.{Floor}
use Rattle.fleet_book.specs.declared.limits.Limits.{Limits}
use Rattle.fleet_history.specs.declared.history.Opening.{Opening}
use Rattle.fleet_history.specs.History.{start}
use Rattle.fleet_state.specs.State.{State, IsStateOf, HasFullRooms, by_client}
use Rattle.fleet_planner.specs.Aimed.{IsAimed}
use Rattle.mover.specs.Moving.{Mover}
use Rattle.fleet_core.specs.Resuming.{empty_box}
use Rattle.fleet_core.specs.inside.Mailboxes.{Mailboxes}

-- the state at the opening, its planner, and mailboxes without notices that go on with their numbers
pub record AreResumed {A : Type 0} (m : Floor) (o : Opening A) (limits : Limits) (s : State A) (p : Mover) (x : Mailboxes) : Type 0 where
  pub is : IsStateOf m (start o) s
  pub room : HasFullRooms s
  pub aimed : IsAimed m (start o) p.planner
  pub plain : p.turns ≡ None
  pub boxes : x.boxes ≡ by_client (start o) (empty_box (start o) limits.mailbox)
  pub noticed : x.noticed ≡ map (λ c. c.noticed) o.clients
