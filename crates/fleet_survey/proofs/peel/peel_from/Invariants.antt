use Rattle.fleet_survey.specs.Peeled.{IsPeeled}
use Rattle.fleet_survey.proofs.peel.peel_from.Given as goal

abbrev pub invariant-loop : goal.invariant-loop
invariant-loop l = IsPeeled l.grid l.fn.marks l.marks
