use Rattle.fleet_bound.proofs.Levels.{reach-few}
use Rattle.fleet_bound.proofs.Reach.{reach-is}
use Rattle.fleet_bound.proofs.law.reach_is_greatest.Goals as goal

pub returns : goal.returns
returns c = record { is = reach-is; few = reach-few }
