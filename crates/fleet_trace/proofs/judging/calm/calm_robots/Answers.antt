use Rattle.fleet_trace.specs.inside.Calm.{calm_robot}
use Rattle.fleet_trace.proofs.AllItems.{map_push, map_done}
use Rattle.fleet_trace.proofs.judging.calm.calm_robots.Goals as goal

pub loop-robot-preserved : goal.loop-robot-preserved
loop-robot-preserved g c =
    map_push calm_robot c.args.robots.now c.loop-robot.robot-index c.robot-item.result c.in_ok-calm_robot.field-0 c.loop-robot.calm.items c.push.new.self.items
    c.loop-robot-test.true c.robot-item.is c.in_ok-calm_robot.ensures c.loop-robot.invariant c.in_ok-push.ensures.items

pub returns : goal.returns
returns g c = map_done calm_robot c.args.robots.now c.loop-robot.robot-index c.loop-robot.calm.items c.loop-robot-test.false c.loop-robot.invariant
