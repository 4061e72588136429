use Rattle.fleet_conflicts.specs.Conflicts.{OfRobots}
use Rattle.fleet_conflicts.proofs.step.faults_of_robots.Given as goal

abbrev pub invariant-loop-robot : goal.invariant-loop-robot
invariant-loop-robot l = OfRobots l.grid l.from l.to l.robot l.faults.items
