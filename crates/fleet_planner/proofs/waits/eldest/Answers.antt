use Rattle.std.proofs.Common.{arith}
use Rattle.fleet_planner.proofs.Longest.{eldest_of}
use Rattle.fleet_planner.proofs.waits.eldest.Goals as goal

pub returns : goal.returns
returns c = eldest_of c.args.waits.now c.loop-robot.robot (omega (arith, c.loop-robot-test.false, c.loop-robot.auto.robot-end)) c.loop-robot.found c.loop-robot.invariant
