-- What was found so far, and what is left in the queue.
use Rattle.std.proofs.Common.{◌≡◌, ◌+◌, ◌++◌, drop}
use Rattle.fleet_core.specs.OpenErrands.{open_in}
use Rattle.fleet_core.proofs.open_errands.add_queue.Given as goal

abbrev pub invariant-loop-at : goal.invariant-loop-at
invariant-loop-at g l = l.found.items ++ open_in l.client l.robot (l.at + 1) (drop l.at l.queue.items) ≡ l.fn.found.items ++ open_in l.client l.robot 1 l.queue.items
