use Rattle.std.proofs.Common.{ℕ, ◌<◌}
use Rattle.fleet_execution.specs.Checked.{Exchanges}
use Rattle.fleet_execution.specs.State.{desk_of}
use Rattle.fleet_execution.proofs.state.State.none_exchange.Given as goal

abbrev pub invariant-loop-robot : goal.invariant-loop-robot
invariant-loop-robot g l = (r q : ℕ) → r < l.robot → Exchanges (desk_of l.self) l.to r q → ⊥
