-- A queue with no room.
use Rattle.std.proofs.Common.{rules}
use Rattle.fleet_queue.proofs.queue.ErrandQueue.is_full.Goals as goal

pub returns-clause-full : goal.returns-clause-full
returns-clause-full g c = search rules
