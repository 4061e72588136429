-- How robots turn to other goals.
use Rattle.std.specs.Prelude.{◌≡◌, ℕ, ◌≤◌, List, [], ◌∷◌, Option, Some, IsSome, slice_set}
use Rattle.fleet_field.specs.Field.{Aim}
use Rattle.fleet_field.specs.Store.{shown}
use Rattle.fleet_field.specs.declared.store.Held.{Held}
use Rattle.fleet_planner.specs.Keys.{field_in}
use Rattle.fleet_planner.specs.declared.turns.GoalChange.{GoalChange}

-- the keys after these turns, each of which gives its robot its fresh key
unfoldable pub dealt : List GoalChange → List (Option ℕ) → List (Option ℕ) → List (Option ℕ)
dealt [] fresh keys = keys
dealt (t ∷ turns) [] keys = keys
dealt (t ∷ turns) (key ∷ fresh) keys = dealt turns fresh (slice_set keys t.robot key)

-- no key is held more often than that
abbrev pub AreFewUses : List (Option (Held Aim)) → ℕ → Type 0
AreFewUses store most = (key : ℕ) (held : Held Aim) → shown store key ≡ Some held → held.uses ≤ most

-- what was shown at a key is shown there still
abbrev pub AreShownOn : List (Option (Held Aim)) → List (Option (Held Aim)) → Type 0
AreShownOn old new = (key : ℕ) → IsSome (shown old key) → field_in (shown new key) ≡ field_in (shown old key)
