use Rattle.std.proofs.Common.{◌≡◌, ◌≤◌, ◌*◌, length}
use Rattle.fleet_office.specs.Hall.{TakesFirst}
use Rattle.fleet_office.proofs.hall_state.HallState.take_all.Given as goal

abbrev pub invariant-loop-client : goal.invariant-loop-client
invariant-loop-client g l = TakesFirst l.client l.fn.self l.taken l.held l.self × (length l.self.ends ≡ length l.fn.self.ends) × (l.taken ≤ l.client * 65536) × (l.held ≤ l.client)
