use Rattle.fleet_reopen.proofs.Far.{IsFarthest}
use Rattle.fleet_reopen.proofs.reach.farthest.Given as goal

abbrev pub invariant-loop-cell : goal.invariant-loop-cell
invariant-loop-cell g l = IsFarthest l.grid l.from l.cell l.far.edges
