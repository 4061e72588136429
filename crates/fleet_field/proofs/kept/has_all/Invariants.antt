use Rattle.std.proofs.Common.{ℕ, ◌<◌, slice_index}
use Rattle.fleet_field.specs.FieldCache.{HasKept}
use Rattle.fleet_field.proofs.kept.has_all.Given as goal

abbrev pub invariant-loop-goal : goal.invariant-loop-goal
invariant-loop-goal g l = (i : ℕ) → i < l.goal-index → HasKept l.kept.items (slice_index l.goals i)
