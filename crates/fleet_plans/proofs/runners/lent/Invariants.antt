use Rattle.std.proofs.Common.{◌≡◌, take}
use Rattle.fleet_plans.specs.Shown.{texts}
use Rattle.fleet_plans.proofs.runners.lent.Given as goal

abbrev pub invariant-loop-track : goal.invariant-loop-track
invariant-loop-track l = record {
  same : texts l.lent.items ≡ take l.track-index l.tracks;
}
