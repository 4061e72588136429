use Rattle.fleet_core.proofs.OwnLaws.{least-farewell}
use Rattle.fleet_core.proofs.least_stamps.least_farewell.Goals as goal

pub returns : goal.returns
returns g c = least-farewell c.args.robots.now c.args.robot c.index-robots-robot.result c.requires
