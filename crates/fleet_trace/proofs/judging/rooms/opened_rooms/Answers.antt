use Rattle.std.proofs.Common.{◌∙◌, ap, length, arith}
use Rattle.fleet_history.specs.declared.history.RobotState.{RobotState}
use Rattle.fleet_trace.proofs.AllItems.{map_push, map_done}
use Rattle.fleet_trace.proofs.judging.rooms.opened_rooms.Goals as goal

pub overflow_cast-len : goal.overflow_cast-len
overflow_cast-len g c =
    let x = c.robot-item.result in
    let few = c.requires c.loop-robot.robot-index x c.loop-robot-test.true in
    let size = c.len.ensures ∙ ap (λ (x : RobotState _). length x.errands) c.robot-item.is in
    omega (arith, few, size, c.ranges.queue.fits)

pub loop-robot-preserved : goal.loop-robot-preserved
loop-robot-preserved g c =
    map_push (λ (x : RobotState _). length x.errands) c.args.robots.now c.loop-robot.robot-index c.robot-item.result c.len.result c.loop-robot.rooms.items c.push.new.self.items
    c.loop-robot-test.true c.robot-item.is c.len.ensures c.loop-robot.invariant c.in_ok-push.ensures.items

pub returns : goal.returns
returns g c = map_done (λ (x : RobotState _). length x.errands) c.args.robots.now c.loop-robot.robot-index c.loop-robot.rooms.items c.loop-robot-test.false c.loop-robot.invariant
