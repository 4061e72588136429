-- One robot more.
use Rattle.fleet_conflicts.proofs.Growing.{no_robots, one_robot_more}
use Rattle.fleet_conflicts.proofs.step.faults_of_robots.Goals as goal

pub loop-robot-init : goal.loop-robot-init
loop-robot-init c = no_robots c.args.grid.now c.args.from.now c.args.to.now c.new-faults.result.items c.new-faults.ensures.items

pub loop-robot-preserved : goal.loop-robot-preserved
loop-robot-preserved c =
    one_robot_more c.args.grid.now c.args.from.now c.args.to.now c.loop-robot.robot c.loop-robot.faults.items c.add_robot.new.faults.items c.loop-robot.invariant c.in_ok-add_robot.ensures
