use Rattle.fleet_survey.specs.Pruned.{Keeps}
use Rattle.fleet_survey.proofs.prune.pruned.Given as goal

abbrev pub invariant-loop : goal.invariant-loop
invariant-loop l = Keeps l.robots l.grid l.map
