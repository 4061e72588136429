use Rattle.std.proofs.Common.{◌≡◌, ◌+◌, length}
use Rattle.fleet_office.specs.Hall.{GivesFrom, given_count}
use Rattle.fleet_office.proofs.hall_state.HallState.give_all.Given as goal

abbrev pub invariant-loop-client : goal.invariant-loop-client
invariant-loop-client g l =
    GivesFrom l.client l.fn.self l.count l.self
    × (length l.self.ends ≡ length l.fn.self.ends)
    × (given_count l.self ≡ given_count l.fn.self + l.count)
