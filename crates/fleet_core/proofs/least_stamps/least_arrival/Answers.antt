use Rattle.fleet_core.proofs.OwnLaws.{least-arrival}
use Rattle.fleet_core.proofs.least_stamps.least_arrival.Goals as goal

pub returns : goal.returns
returns g c = least-arrival c.args.robots.now c.args.robot c.index-robots-robot.result c.requires
