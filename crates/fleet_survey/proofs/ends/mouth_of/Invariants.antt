use Rattle.fleet_survey.proofs.Taken.{NoneBeside}
use Rattle.fleet_survey.proofs.ends.mouth_of.Given as goal

abbrev pub invariant-loop-place : goal.invariant-loop-place
invariant-loop-place l = NoneBeside l.grid l.unroomy.marks.items l.cells l.place
