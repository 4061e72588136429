use Rattle.fleet_bound.proofs.Queues.{fleet-idles}
use Rattle.fleet_bound.proofs.law.fleet_gets_idle.Goals as goal

pub returns : goal.returns
returns g c = fleet-idles
