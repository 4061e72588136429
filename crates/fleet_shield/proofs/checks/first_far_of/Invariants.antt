use Rattle.std.proofs.Common.{ℕ, ◌<◌}
use Rattle.fleet_shield.specs.Wishes.{wishes, IsNear}
use Rattle.fleet_shield.proofs.checks.first_far_of.Given as goal

abbrev pub invariant-loop-place : goal.invariant-loop-place
invariant-loop-place g l = (k : ℕ) → k < l.place → IsNear l.grid (wishes l.from l.preferences) l.robot k
