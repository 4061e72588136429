-- Each try is a step from the spot.
use Rattle.fleet_bridge.proofs.detours.next_step.Goals as goal

pub stepped-requires-clause-laid_out : goal.stepped-requires-clause-laid_out
stepped-requires-clause-laid_out g c = c.requires.laid_out

pub stepped-requires-clause-spot : goal.stepped-requires-clause-spot
stepped-requires-clause-spot g c = c.requires.spot

pub stepped-requires-2-clause-laid_out : goal.stepped-requires-2-clause-laid_out
stepped-requires-2-clause-laid_out g c = c.requires.laid_out

pub stepped-requires-2-clause-spot : goal.stepped-requires-2-clause-spot
stepped-requires-2-clause-spot g c = c.requires.spot

pub stepped-requires-3-clause-laid_out : goal.stepped-requires-3-clause-laid_out
stepped-requires-3-clause-laid_out g c = c.requires.laid_out

pub stepped-requires-3-clause-spot : goal.stepped-requires-3-clause-spot
stepped-requires-3-clause-spot g c = c.requires.spot

pub stepped-requires-4-clause-laid_out : goal.stepped-requires-4-clause-laid_out
stepped-requires-4-clause-laid_out g c = c.requires.laid_out

pub stepped-requires-4-clause-spot : goal.stepped-requires-4-clause-spot
stepped-requires-4-clause-spot g c = c.requires.spot
