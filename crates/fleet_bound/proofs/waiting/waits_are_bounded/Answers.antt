use Rattle.fleet_bound.proofs.WaitBounds.{bounded-short}
use Rattle.fleet_bound.proofs.waiting.waits_are_bounded.Goals as goal

pub returns : goal.returns
returns c = bounded-short
