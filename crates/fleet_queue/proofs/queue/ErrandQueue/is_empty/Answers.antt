-- A queue with no errand.
use Rattle.std.proofs.Common.{arith}
use Rattle.std.proofs.lemmas.Grind.{common_steps}
use Rattle.fleet_queue.proofs.queue.ErrandQueue.is_empty.Goals as goal

pub returns : goal.returns
returns g c = grind (arith, common_steps)
