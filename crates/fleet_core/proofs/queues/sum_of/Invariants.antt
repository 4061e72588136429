-- The sum of the lengths so far.
use Rattle.std.proofs.Common.{◌≡◌, length, take}
use Rattle.std.specs.List.{sum_by}
use Rattle.fleet_core.proofs.queues.sum_of.Given as goal

abbrev pub invariant-loop-queue : goal.invariant-loop-queue
invariant-loop-queue g l = l.sum ≡ sum_by (λ q. length q.items) (take l.queue-index l.queues)
