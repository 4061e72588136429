use Rattle.fleet_bound.proofs.OpenRoomy.{open-goes, open-idles}
use Rattle.fleet_bound.proofs.law.open_errands_advance.Goals as goal

pub returns : goal.returns
returns g c = record {
  onward = λ m ties h. open-goes m h ties;
  idle = λ m ties h. open-idles m h ties;
}
