-- A queue with one more errand, where there is room.
use Rattle.std.proofs.Common.{rules}
use Rattle.fleet_queue.proofs.queue.ErrandQueue.try_push.Goals as goal

pub returns-clause-room : goal.returns-clause-room
returns-clause-room g c = search rules

pub returns-clause-ok : goal.returns-clause-ok
returns-clause-ok g c = search rules
