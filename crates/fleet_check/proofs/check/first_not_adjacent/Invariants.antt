use Rattle.std.proofs.Common.{ℕ, ◌<◌}
use Rattle.fleet_check.specs.Fault.{Moves}
use Rattle.fleet_check.proofs.check.first_not_adjacent.Given as goal

abbrev pub invariant-loop-robot : goal.invariant-loop-robot
invariant-loop-robot g l = (k : ℕ) → k < l.robot → Moves l.grid l.from l.to k
