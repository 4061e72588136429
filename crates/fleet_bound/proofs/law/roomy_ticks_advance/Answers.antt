use Rattle.fleet_bound.proofs.Roomy.{roomy-tick, roomy-eldest, roomy-ticks, roomy-onward, roomy-bridgeless, bound-bridgeless, roomy-next}
use Rattle.fleet_bound.proofs.law.roomy_ticks_advance.Goals as goal

pub returns : goal.returns
returns g c = record {
  tick = roomy-tick;
  eldest = roomy-eldest;
  all = roomy-ticks;
  onward = roomy-onward;
  bridgeless = roomy-bridgeless;
  bound = bound-bridgeless;
  next = roomy-next;
}
