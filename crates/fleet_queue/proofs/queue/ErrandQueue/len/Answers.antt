-- The number of errands.
use Rattle.std.proofs.Common.{rules}
use Rattle.fleet_queue.proofs.queue.ErrandQueue.len.Goals as goal

pub returns-clause-len : goal.returns-clause-len
returns-clause-len g c = search rules
