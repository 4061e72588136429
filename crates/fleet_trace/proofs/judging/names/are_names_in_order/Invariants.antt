use Rattle.std.proofs.Common.{ℕ, ◌<◌}
use Rattle.std.specs.Ordering.{nat_cmp}
use Rattle.std.specs.BTreeMap.{get}
use Rattle.fleet_trace.specs.inside.Opened.{AreEntered, AreRising, errands_in}
use Rattle.fleet_trace.proofs.judging.names.are_names_in_order.Given as goal

abbrev pub invariant-loop-robot : goal.invariant-loop-robot
invariant-loop-robot g l = record {
  entered : AreEntered l.robots l.client l.robot 0 (get nat_cmp l.robot_of);
  rising : (r : ℕ) → r < l.robot → AreRising l.client (errands_in l.robots r);
}
