use Rattle.fleet_bridge.specs.inside.Places.{IsOnWay}
use Rattle.fleet_bridge.proofs.detours.steps_at_hand.Given as goal

abbrev pub invariant-loop-steps : goal.invariant-loop-steps
invariant-loop-steps g l = IsOnWay l.places.grid.now l.places.stride l.from l.to.cell l.walker.spot
