-- The queue without its front.
use Rattle.std.proofs.Common.{sym}
use Rattle.fleet_execution.proofs.Queues.{first_inside, queue_pop}
use Rattle.fleet_execution.proofs.queue.Queue.drop_first.Goals as goal

pub set-requires : goal.set-requires
set-requires g c = first_inside c.self.inside.order.items c.self.inside.order.capacity c.self.inside.waits c.in-Some.robot c.self.invariant (sym c.in-Some.ensures.value)

pub invariant_of-self : goal.invariant_of-self
invariant_of-self g c = rw (c.pop_front.ensures.items, c.set.ensures) (queue_pop c.self.inside.order.items c.self.inside.order.capacity c.self.inside.waits c.in-Some.robot c.self.invariant (sym c.in-Some.ensures.value))
