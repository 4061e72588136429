use Rattle.fleet_survey.proofs.Sets.{AreWithin}
use Rattle.fleet_survey.proofs.least.roomy_for.Given as goal

abbrev pub invariant-loop-place : goal.invariant-loop-place
invariant-loop-place l = AreWithin l.grid l.cells l.place l.least
