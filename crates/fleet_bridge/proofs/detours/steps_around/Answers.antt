-- Both edges from a cell start at its spot.
use Rattle.fleet_bridge.proofs.detours.steps_around.Goals as goal

pub steps_beside-requires-clause-laid_out : goal.steps_beside-requires-clause-laid_out
steps_beside-requires-clause-laid_out g c = c.requires.laid_out

pub steps_beside-requires-clause-spot : goal.steps_beside-requires-clause-spot
steps_beside-requires-clause-spot g c = c.requires.spot

pub steps_beside-requires-2-clause-laid_out : goal.steps_beside-requires-2-clause-laid_out
steps_beside-requires-2-clause-laid_out g c = c.requires.laid_out

pub steps_beside-requires-2-clause-spot : goal.steps_beside-requires-2-clause-spot
steps_beside-requires-2-clause-spot g c = c.requires.spot
