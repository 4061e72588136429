use Rattle.std.proofs.Common.{arith}
use Rattle.fleet_planner.proofs.Lenders.{lenders_all}
use Rattle.fleet_planner.proofs.lending.nearest_inside.Goals as goal

pub returns : goal.returns
returns c = lenders_all c.args.rooms.door.now c.args.rooms.away.now c.args.cells.now c.args.room c.args.but c.loop-robot.robot (omega (arith, c.loop-robot-test.false, c.loop-robot.auto.robot-end)) c.loop-robot.found c.loop-robot.invariant
