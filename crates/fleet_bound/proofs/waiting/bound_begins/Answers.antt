use Rattle.fleet_bound.proofs.WaitBounds.{bounded-idle}
use Rattle.fleet_bound.proofs.waiting.bound_begins.Goals as goal

pub returns : goal.returns
returns c = bounded-idle
