use Rattle.std.proofs.Common.{ℕ, ◌<◌}
use Rattle.fleet_shield.specs.Fault.{IsKnown}
use Rattle.fleet_shield.proofs.checks.first_unknown.Given as goal

abbrev pub invariant-loop-place : goal.invariant-loop-place
invariant-loop-place l = (k : ℕ) → k < l.place → IsKnown l.order k
