use Rattle.fleet_plans.specs.Shown.{texts}
use Rattle.fleet_plans.specs.inside.Walk.{IsLongest}
use Rattle.fleet_plans.proofs.walk.longest.Given as goal

abbrev pub invariant-loop-track : goal.invariant-loop-track
invariant-loop-track l = IsLongest (texts l.tracks) l.track-index l.most
