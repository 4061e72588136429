use Rattle.std.proofs.Common.{ℕ, ◌≤◌, length}
use Rattle.std.specs.Ordering.{nat_cmp}
use Rattle.std.specs.BTreeMap.{get}
use Rattle.fleet_check.specs.inside.Seats.{IsSeat}
use Rattle.fleet_conflicts.proofs.seats.seats_of.Given as goal

abbrev pub invariant-loop-robot : goal.invariant-loop-robot
invariant-loop-robot l = record {
  within : l.robot ≤ length l.to;
  seats : (c : ℕ) → IsSeat l.to l.robot c (get nat_cmp l.seats c);
}

abbrev pub decreases-loop-robot : goal.decreases-loop-robot
decreases-loop-robot l = l.robot
