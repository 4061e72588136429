use Rattle.std.proofs.Common.{◌≡◌, map, take}
use Rattle.fleet_trace.specs.inside.Calm.{calm_robot}
use Rattle.fleet_trace.proofs.judging.calm.calm_robots.Given as goal

abbrev pub invariant-loop-robot : goal.invariant-loop-robot
invariant-loop-robot g l = l.calm.items ≡ map calm_robot (take l.robot-index l.robots)
