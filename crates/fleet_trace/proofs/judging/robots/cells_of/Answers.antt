use Rattle.fleet_history.specs.declared.history.RobotState.{RobotState}
use Rattle.std.proofs.Common.{refl}
use Rattle.fleet_trace.proofs.AllItems.{map_push, map_done}
use Rattle.fleet_trace.proofs.judging.robots.cells_of.Goals as goal

pub loop-robot-preserved : goal.loop-robot-preserved
loop-robot-preserved g c =
    map_push (λ (x : RobotState _). x.cell) c.args.robots.now c.loop-robot.robot-index c.robot-item.result c.robot-item.result.cell c.loop-robot.cells.items c.push.new.self.items
    c.loop-robot-test.true c.robot-item.is refl c.loop-robot.invariant c.in_ok-push.ensures.items

pub returns : goal.returns
returns g c = map_done (λ (x : RobotState _). x.cell) c.args.robots.now c.loop-robot.robot-index c.loop-robot.cells.items c.loop-robot-test.false c.loop-robot.invariant
