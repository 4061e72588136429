use Rattle.fleet_bound.proofs.Errands.{errands-gone}
use Rattle.fleet_bound.proofs.law.errands_arrive.Goals as goal

pub returns : goal.returns
returns g c = errands-gone
