use Rattle.fleet_bound.proofs.OpenRoomy.{roomy-start, roomy-more, roomy-fresh, open-roomy}
use Rattle.fleet_bound.proofs.law.entries_keep_roomy.Goals as goal

pub returns : goal.returns
returns g c = record {
  opening = roomy-start;
  onward = roomy-more;
  unfinished = open-roomy;
  fresh = roomy-fresh;
}
