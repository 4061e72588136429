use Rattle.fleet_survey.specs.Taken.{AreFound}
use Rattle.fleet_survey.proofs.DeadEnds.{AreGone}
use Rattle.fleet_survey.proofs.ends.dead_ends.Given as goal

abbrev pub invariant-loop-place : goal.invariant-loop-place
invariant-loop-place l = record { found : AreFound l.grid l.unroomy.marks.items l.left.items l.ends.items; gone : AreGone l.left.items l.cells l.place }
