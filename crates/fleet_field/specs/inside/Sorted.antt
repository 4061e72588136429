-- Goals that have a kept field, and goals that have not.
use Rattle.std.specs.Prelude.{ℕ, ◌+◌, ◌<◌, ◌≤◌, ◌⊎◌, List, length, slice_index}
use Rattle.fleet_field.specs.Field.{Aim}
use Rattle.fleet_field.specs.FieldCache.{AreKept}
use Rattle.fleet_field.specs.inside.Uses.{IsOneOf}

-- the first n goals, in two lists: those that have a kept field, and those that have none
pub record AreSorted (kept : List Aim) (goals : List ℕ) (n : ℕ) (found missing : List ℕ) : Type 0 where
  pub each : (i : ℕ) → i < n → IsOneOf found (slice_index goals i) ⊎ IsOneOf missing (slice_index goals i)
  pub has : AreKept found kept
  pub only : (i : ℕ) → i < length missing → IsOneOf goals (slice_index missing i)
  pub few : length found + length missing ≤ n
