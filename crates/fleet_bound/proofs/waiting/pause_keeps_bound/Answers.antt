use Rattle.fleet_bound.proofs.WaitBounds.{bounded-pause}
use Rattle.fleet_bound.proofs.waiting.pause_keeps_bound.Goals as goal

pub returns : goal.returns
returns c = bounded-pause
