use Rattle.fleet_bound.proofs.WaitRuns.{errands-arrive}
use Rattle.fleet_bound.proofs.waiting.errands_arrive.Goals as goal

pub returns : goal.returns
returns c = errands-arrive
