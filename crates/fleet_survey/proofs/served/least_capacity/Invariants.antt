use Rattle.fleet_survey.specs.Served.{capacity_at}
use Rattle.fleet_survey.proofs.Serving.{AreServedBelow}
use Rattle.fleet_survey.proofs.served.least_capacity.Given as goal

abbrev pub invariant-loop-cell : goal.invariant-loop-cell
invariant-loop-cell l = AreServedBelow l.grid (capacity_at l.rooms) l.cell l.least
