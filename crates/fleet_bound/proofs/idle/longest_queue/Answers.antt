-- The greatest length of the queues.
use Rattle.std.proofs.Common.{arith}
use Rattle.std.proofs.lemmas.Grind.{common_steps}
use Rattle.fleet_bound.proofs.idle.longest_queue.Goals as goal

pub returns : goal.returns
returns g c = grind (arith, common_steps)
