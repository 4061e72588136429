-- An empty queue.
use Rattle.std.proofs.Common.{rules}
use Rattle.fleet_queue.proofs.queue.ErrandQueue.new.Goals as goal

pub returns : goal.returns
returns g c = search rules
