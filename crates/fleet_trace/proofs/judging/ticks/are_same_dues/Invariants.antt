use Rattle.std.proofs.Common.{◌≡◌, map, take}
use Rattle.fleet_history.specs.Legal.{due_of}
use Rattle.fleet_trace.proofs.judging.ticks.are_same_dues.Given as goal

abbrev pub invariant-loop-i : goal.invariant-loop-i
invariant-loop-i l = map due_of (take l.i l.arrived) ≡ map due_of (take l.i l.others)
