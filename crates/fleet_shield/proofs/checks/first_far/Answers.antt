use Rattle.fleet_shield.specs.Wishes.{wishes}
use Rattle.fleet_shield.specs.Fault.{AllNear}
use Rattle.fleet_shield.proofs.Listed.{all_more}
use Rattle.fleet_shield.proofs.checks.first_far.Goals as goal

pub loop-robot-preserved : goal.loop-robot-preserved
loop-robot-preserved g c =
    all_more (AllNear c.args.grid.now (wishes c.args.from.now c.args.preferences.now)) c.loop-robot.robot c.loop-robot.invariant c.in_default.ensures
