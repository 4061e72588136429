-- The front.
use Rattle.std.proofs.Common.{rules}
use Rattle.fleet_queue.proofs.queue.ErrandQueue.front.Goals as goal

pub returns : goal.returns
returns g c = search rules
