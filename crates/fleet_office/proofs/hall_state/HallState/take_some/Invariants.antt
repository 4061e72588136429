use Rattle.std.proofs.Common.{◌≡◌, length}
use Rattle.fleet_office.specs.Hall.{TakesMany}
use Rattle.fleet_office.proofs.hall_state.HallState.take_some.Given as goal

abbrev pub invariant-loop-taken : goal.invariant-loop-taken
invariant-loop-taken g l = TakesMany l.taken l.fn.self l.fn.client l.self × (length l.self.ends ≡ length l.fn.self.ends) × (l.self.world.limits ≡ l.fn.self.world.limits)
