use Rattle.std.proofs.Common.{arith}
use Rattle.fleet_core.proofs.OpenFacts.{queues-more, queues-past}
use Rattle.fleet_core.proofs.open_errands.add_queues.Goals as goal

pub loop-robot-preserved : goal.loop-robot-preserved
loop-robot-preserved g c =
    queues-more c.args.client c.loop-robot.robot c.args.queues.now c.index-queues-robot.result c.loop-robot.found.items c.add_queue.new.found.items _
    c.loop-robot-test.true c.index-queues-robot.is c.in_ok-add_queue.ensures c.loop-robot.invariant

pub overflow_cast-robot : goal.overflow_cast-robot
overflow_cast-robot g c = omega (arith, c.loop-robot-test.true, c.requires)

pub returns : goal.returns
returns g c = queues-past c.args.client c.loop-robot.robot c.args.queues.now c.loop-robot.found.items _ c.loop-robot-test.false c.loop-robot.invariant
