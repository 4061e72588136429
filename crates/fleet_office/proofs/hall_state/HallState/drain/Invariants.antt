use Rattle.std.proofs.Common.{◌≡◌, ◌<◌, length}
use Rattle.fleet_office.specs.Views.{OthersStay}
use Rattle.fleet_office.proofs.Emptied.{Left, DrainsSome}
use Rattle.fleet_office.proofs.hall_state.HallState.drain.Given as goal

abbrev pub invariant-loop-taken : goal.invariant-loop-taken
invariant-loop-taken g l =
    OthersStay l.number l.fn.self.ends l.self.ends
    × (l.self.total ≡ l.fn.self.total)
    × (l.number < length l.self.ends)
    × Left l.number l.self.ends l.client l.taken l.left
    × DrainsSome l.fn.self.world l.number l.left l.taken l.self.world
