use Rattle.std.proofs.Common.{◌-◌, count_by}
use Rattle.fleet_survey.proofs.Taken.{IsBegun}
use Rattle.fleet_survey.proofs.ends.take_all.Given as goal

abbrev pub invariant-loop-place : goal.invariant-loop-place
invariant-loop-place l = IsBegun l.grid l.first l.fn.left.items l.left.items l.cells.items l.place

abbrev pub decreases-loop-place : goal.decreases-loop-place
decreases-loop-place l = count_by (λ b. b) l.fn.left.items - l.place
