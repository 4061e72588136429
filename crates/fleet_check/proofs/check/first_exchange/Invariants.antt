use Rattle.std.proofs.Common.{ℕ, ◌<◌, length}
use Rattle.fleet_check.specs.Fault.{Exchange}
use Rattle.fleet_check.proofs.check.first_exchange.Given as goal

abbrev pub invariant-loop-robot : goal.invariant-loop-robot
invariant-loop-robot g l = (i : ℕ) → i < l.robot → (j : ℕ) → i < j → j < length l.to → Exchange l.from l.to i j → ⊥
