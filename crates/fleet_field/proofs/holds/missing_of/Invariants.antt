use Rattle.std.proofs.Common.{ℕ, ◌<◌, ◌⊎◌, length, slice_index}
use Rattle.fleet_field.specs.inside.Uses.{HasGoal, IsOneOf}
use Rattle.fleet_field.proofs.holds.missing_of.Given as goal

abbrev pub invariant-loop-goal : goal.invariant-loop-goal
invariant-loop-goal g l = record {
  each : (i : ℕ) → i < l.goal-index → HasGoal l.held.slots (slice_index l.goals i) ⊎ IsOneOf l.missing.items (slice_index l.goals i);
  only : (i : ℕ) → i < length l.missing.items → IsOneOf l.goals (slice_index l.missing.items i);
}
