-- A walk around the edge in a direction, on either hand.
use Rattle.fleet_bridge.proofs.detours.steps_beside.Goals as goal

pub spot_beside-requires-clause-laid_out : goal.spot_beside-requires-clause-laid_out
spot_beside-requires-clause-laid_out g c = c.requires.laid_out

pub spot_beside-requires-clause-spot : goal.spot_beside-requires-clause-spot
spot_beside-requires-clause-spot g c = c.requires.spot

pub steps_at_hand-requires-clause-laid_out : goal.steps_at_hand-requires-clause-laid_out
steps_at_hand-requires-clause-laid_out g c = c.requires.laid_out

pub steps_at_hand-requires-clause-to : goal.steps_at_hand-requires-clause-to
steps_at_hand-requires-clause-to g c = c.in-Some.ensures.spot

pub steps_at_hand-requires-2-clause-laid_out : goal.steps_at_hand-requires-2-clause-laid_out
steps_at_hand-requires-2-clause-laid_out g c = c.requires.laid_out

pub steps_at_hand-requires-2-clause-to : goal.steps_at_hand-requires-2-clause-to
steps_at_hand-requires-2-clause-to g c = c.in-Some.ensures.spot
