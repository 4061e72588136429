use Rattle.fleet_refit.proofs.Settling.{IsSoFar}
use Rattle.fleet_refit.proofs.reached.settle_all.Given as goal

abbrev pub invariant-loop-robot : goal.invariant-loop-robot
invariant-loop-robot g l = IsSoFar l.grid l.robot l.fn.seats.items l.seats.items l.fn.dropped.items l.dropped.items
