-- An empty queue.
use Rattle.fleet_execution.proofs.Queues.{queue_new}
use Rattle.fleet_execution.proofs.queue.Queue.new.Goals as goal

pub invariant_of-result : goal.invariant_of-result
invariant_of-result g c = rw (c.in_ok-order.ensures, c.in_ok-waits.ensures) (queue_new c.args.robots)
