use Rattle.std.proofs.Common.{ℕ, ◌<◌}
use Rattle.fleet_shield.specs.Wishes.{wishes}
use Rattle.fleet_shield.specs.Fault.{AllNear}
use Rattle.fleet_shield.proofs.checks.first_far.Given as goal

abbrev pub invariant-loop-robot : goal.invariant-loop-robot
invariant-loop-robot g l = (r : ℕ) → r < l.robot → AllNear l.grid (wishes l.from l.preferences) r
