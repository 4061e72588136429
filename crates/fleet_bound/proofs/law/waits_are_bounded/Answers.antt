use Rattle.fleet_bound.proofs.BoundLaws.{bounded-legal, bound-legal, bound-short, bound-onward}
use Rattle.fleet_bound.proofs.law.waits_are_bounded.Goals as goal

pub returns : goal.returns
returns g c = record {
  bounded = bounded-legal;
  kept = bound-legal;
  onward = bound-onward;
  below = bound-short;
}
