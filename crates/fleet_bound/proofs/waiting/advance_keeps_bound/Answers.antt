use Rattle.fleet_bound.proofs.WaitBounds.{bounded-tick}
use Rattle.fleet_bound.proofs.waiting.advance_keeps_bound.Goals as goal

pub returns : goal.returns
returns c = bounded-tick
