use Rattle.std.proofs.Common.{◌≡◌, ◌++◌, drop, map}
use Rattle.fleet_conflicts.specs.Conflicts.{at_time}
use Rattle.fleet_conflicts.proofs.conflicts.add_time.Given as goal

abbrev pub invariant-loop-fault : goal.invariant-loop-fault
invariant-loop-fault l = l.conflicts.items ++ map (at_time l.time) (drop l.fault-index l.faults) ≡ l.fn.conflicts.items ++ map (at_time l.time) l.faults
