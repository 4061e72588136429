-- One more robot's step.
use Rattle.fleet_view.proofs.Signs.{next-step}
use Rattle.fleet_view.proofs.placed.write_steps.Goals as goal

pub loop-robot-preserved : goal.loop-robot-preserved
loop-robot-preserved c =
    next-step c.args.width c.args.from.now c.args.to.now c.loop-robot.robot c.cell_of.result c.args.out.now.items c.loop-robot.out.items c.write_step.new.out.items
    c.loop-robot.invariant c.cell_of.ensures c.in_ok-write_step.ensures
