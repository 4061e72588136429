use Rattle.std.proofs.Common.{◌≡◌, ◌≤◌, ◌<◌, ℕ, List, [], Result, Ok, Err, length, replicate, slice_index, arith}
use Rattle.std.specs.Prelude.{IfOk}
use Rattle.std.specs.declared.alloc.AllocError.{AllocError}
use Rattle.std.proofs.lemmas.List.{get_or-replicate, length-replicate}
use Rattle.fleet_grid.specs.Floor.{Floor}
use Rattle.fleet_history.specs.declared.history.Opening.{Opening}
use Rattle.fleet_history.specs.declared.history.RobotState.{RobotState}
use Rattle.fleet_history.specs.History.{start}
use Rattle.fleet_history.specs.Legal.{IsInOrder}
use Rattle.fleet_history.proofs.Legal.{unknown_robot}
use Rattle.fleet_state.specs.State.{State, IsStateOf, HasFullRooms}
use Rattle.fleet_state.proofs.Laws.{robot-at}
use Rattle.fleet_state.proofs.Parts.{queue-count}
use Rattle.fleet_state.proofs.state.FleetState.open.Goals as goal

same-room : (n room r : ℕ) → r < n → slice_index (replicate n room) r ≡ room
same-room n room r l = get_or-replicate n r room 0 l

full-is : {A : Type 0} (x : Result (State A) AllocError) (m : Floor) (o : Opening A) (n room : ℕ) (rooms : List ℕ) → IsInOrder m o → n ≡ length o.robots → rooms ≡ replicate n room →
    IfOk x (λ s. (m : Floor) → IsInOrder m o → IsStateOf m (start o) s) → IfOk x (λ s. s.rooms ≡ rooms) → IfOk x (λ s. s.queue ≤ room → HasFullRooms s)
full-is (Ok s) m o n room rooms i many e of same =
    λ enough r l. rw (same, e, same-room n room r (omega (arith, l, many, queue-count (of m i)))) enough
full-is (Err f) m o n room rooms i many e of same = tt

pub open_within-requires-clause-rooms : goal.open_within-requires-clause-rooms
open_within-requires-clause-rooms g c =
    let robots = c.args.opening.now.robots in
    rw (c.in_ok-rooms.ensures, c.len.ensures) record {
      count = length-replicate (length robots) c.args.room;
      each = λ r l. rw (same-room (length robots) c.args.room r l, robot-at (λ (x : RobotState _). x.errands) c.args.opening.now r [] l) (c.requires.room r unknown_robot l);
    }

pub returns-clause-full : goal.returns-clause-full
returns-clause-full g c =
    full-is c.open_within.result c.requires.order.0 c.args.opening.now c.len.result c.args.room c.in_ok-rooms.rooms.items c.requires.order.1 c.len.ensures c.in_ok-rooms.ensures c.open_within.ensures.of c.open_within.ensures.rooms
