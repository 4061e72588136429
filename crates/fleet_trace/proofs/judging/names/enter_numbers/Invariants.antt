use Rattle.std.specs.Ordering.{nat_cmp}
use Rattle.std.specs.BTreeMap.{get}
use Rattle.fleet_trace.specs.inside.Opened.{AreEntered}
use Rattle.fleet_trace.proofs.judging.names.enter_numbers.Given as goal

abbrev pub invariant-loop-place : goal.invariant-loop-place
invariant-loop-place g l = AreEntered l.robots l.client l.robot l.place (get nat_cmp l.robot_of)
