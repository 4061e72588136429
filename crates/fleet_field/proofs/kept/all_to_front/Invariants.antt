use Rattle.std.proofs.Common.{◌≡◌, ℕ, ◌<◌, length, slice_index, take}
use Rattle.std.specs.List.{All, Contains}
use Rattle.fleet_field.specs.FieldCache.{HasKept, AreKept}
use Rattle.fleet_field.proofs.kept.all_to_front.Given as goal

abbrev pub invariant-loop-goal : goal.invariant-loop-goal
invariant-loop-goal g l = record {
  among : All (Contains l.fn.kept.items) l.kept.items;
  within : (i : ℕ) → i < l.goal-index → HasKept (take l.goal-index l.kept.items) (slice_index l.goals i);
  all : AreKept l.goals l.kept.items;
  len : length l.kept.items ≡ length l.fn.kept.items;
  room : l.kept.room ≡ l.fn.kept.room;
}
