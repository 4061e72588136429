use Rattle.fleet_conflicts.specs.Conflicts.{UpTo}
use Rattle.fleet_conflicts.proofs.conflicts.conflicts_on.Given as goal

abbrev pub invariant-loop-time : goal.invariant-loop-time
invariant-loop-time l = UpTo l.grid l.places l.time l.conflicts.items
