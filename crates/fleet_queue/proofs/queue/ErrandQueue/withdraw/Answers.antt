-- The queue without the withdrawn errand.
use Rattle.std.proofs.Common.{rules}
use Rattle.fleet_queue.proofs.queue.ErrandQueue.withdraw.Goals as goal

pub returns-clause-rest : goal.returns-clause-rest
returns-clause-rest g c = search rules
