-- What was found so far, and what is left in the other queues.
use Rattle.std.proofs.Common.{◌≡◌, ◌++◌, drop, map}
use Rattle.fleet_core.specs.OpenErrands.{open_from}
use Rattle.fleet_core.proofs.open_errands.add_queues.Given as goal

abbrev pub invariant-loop-robot : goal.invariant-loop-robot
invariant-loop-robot g l =
    l.found.items ++ open_from l.client l.robot (map (λ q. q.items) (drop l.robot l.queues)) ≡ l.fn.found.items ++ open_from l.client 0 (map (λ q. q.items) l.queues)
