use Rattle.std.proofs.Common.{ℕ, ◌≤◌, length}
use Rattle.std.specs.Ordering.{nat_cmp}
use Rattle.std.specs.BTreeMap.{get}
use Rattle.fleet_check.specs.inside.Seats.{IsSeat, IsShared}
use Rattle.fleet_check.proofs.check.seats_of.Given as goal

abbrev pub invariant-loop-robot : goal.invariant-loop-robot
invariant-loop-robot g l = record {
  within : l.robot ≤ length l.to;
  seats : (c : ℕ) → IsSeat l.to l.robot c (get nat_cmp l.seats c);
  shared : IsShared l.to l.robot l.shared;
}

abbrev pub decreases-loop-robot : goal.decreases-loop-robot
decreases-loop-robot g l = l.robot
