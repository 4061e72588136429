use Rattle.fleet_survey.specs.Peeled.{IsPeeled}
use Rattle.fleet_survey.proofs.peel.peel.Given as goal

abbrev pub invariant-loop-cell : goal.invariant-loop-cell
invariant-loop-cell l = IsPeeled l.grid l.fn.marks l.marks
