-- The front, and the queue without it.
use Rattle.std.proofs.Common.{rules}
use Rattle.fleet_queue.proofs.queue.ErrandQueue.pop.Goals as goal

pub returns-clause-front : goal.returns-clause-front
returns-clause-front g c = search rules

pub returns-clause-rest : goal.returns-clause-rest
returns-clause-rest g c = search rules
