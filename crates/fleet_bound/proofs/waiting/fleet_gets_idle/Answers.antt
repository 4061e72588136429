use Rattle.fleet_bound.proofs.WaitRuns.{fleet-idle}
use Rattle.fleet_bound.proofs.waiting.fleet_gets_idle.Goals as goal

pub returns : goal.returns
returns c = fleet-idle
