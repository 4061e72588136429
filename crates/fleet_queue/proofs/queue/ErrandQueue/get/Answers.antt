-- The errand at the place.
use Rattle.std.proofs.Common.{rules}
use Rattle.fleet_queue.proofs.queue.ErrandQueue.get.Goals as goal

pub returns : goal.returns
returns g c = search rules
