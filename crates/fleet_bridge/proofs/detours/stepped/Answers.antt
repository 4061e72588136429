-- A step from a spot.
use Rattle.fleet_bridge.proofs.detours.stepped.Goals as goal

pub spot_beside-requires-clause-laid_out : goal.spot_beside-requires-clause-laid_out
spot_beside-requires-clause-laid_out g c = c.requires.laid_out

pub spot_beside-requires-clause-spot : goal.spot_beside-requires-clause-spot
spot_beside-requires-clause-spot g c = c.requires.spot
