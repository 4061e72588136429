-- The errands so far.
use Rattle.std.proofs.Common.{◌≡◌, ◌-◌, ◌^◌, length, min, take}
use Rattle.std.specs.List.{sum_by}
use Rattle.fleet_live.proofs.counts.errands_of.Given as goal

abbrev pub invariant-loop-robot : goal.invariant-loop-robot
invariant-loop-robot l = l.errands ≡ min (sum_by (λ r. length r.errands) (take l.robot-index l.robots)) (2 ^ 64 - 1)
