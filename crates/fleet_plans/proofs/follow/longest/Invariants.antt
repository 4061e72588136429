use Rattle.fleet_plans.specs.inside.Walk.{IsLongest}
use Rattle.fleet_plans.proofs.follow.longest.Given as goal

abbrev pub invariant-loop-robot : goal.invariant-loop-robot
invariant-loop-robot l = IsLongest l.paths l.robot l.most
