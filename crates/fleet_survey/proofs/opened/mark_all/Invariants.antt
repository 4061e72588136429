use Rattle.fleet_survey.specs.Mended.{AreMarked}
use Rattle.fleet_survey.proofs.opened.mark_all.Given as goal

abbrev pub invariant-loop-at : goal.invariant-loop-at
invariant-loop-at l = AreMarked l.cells l.at l.fn.marks l.marks
