-- Several fields, and several holds.
use Rattle.std.specs.Prelude.{◌≡◌, ℕ, ◌+◌, ◌^◌, ◌<◌, ◌==◌, List, Option, Some, None, length, slice_index, count_by}
use Rattle.std.specs.List.{AllZip}
use Rattle.fleet_grid.specs.Floor.{Floor}
use Rattle.fleet_field.specs.Field.{Aim, IsField}
use Rattle.fleet_field.specs.Store.{shown, HasUsesLeft}
use Rattle.fleet_field.specs.declared.store.Held.{Held}

-- for each goal in turn its field
abbrev pub AreFields : Floor → List ℕ → List Aim → Type 0
AreFields m goals fields = AllZip (IsField m) goals fields

-- how often a goal is among these
abbrev pub times : List ℕ → ℕ → ℕ
times goals aimed = count_by (λ goal. goal == aimed) goals

-- with one hold more for each of the goals, each goal is held fewer than 2^32 times
abbrev pub HaveUsesLeft : List (Option (Held Aim)) → List ℕ → Type 0
HaveUsesLeft store goals = (aimed : ℕ) → (times goals aimed < 2 ^ 32) × HasUsesLeft store aimed (times goals aimed)

-- holds of several goals, each with its key: a key that showed a field shows it still, and as many holds more as its goal
-- is among them; a key that showed nothing shows nothing, or one of the goals with as many holds
pub record AreHeld (goals : List ℕ) (old : List (Option (Held Aim))) (keys : List ℕ) (new : List (Option (Held Aim))) : Type 0 where
  pub count : length keys ≡ length goals
  pub shows : (i : ℕ) → i < length goals → (held : Held Aim) × (shown new (slice_index keys i) ≡ Some held) × (held.field.goal ≡ slice_index goals i)
  pub kept : (key : ℕ) (held : Held Aim) → shown old key ≡ Some held → shown new key ≡ Some (record held { uses = held.uses + times goals held.field.goal })
  pub fresh : (key : ℕ) (held : Held Aim) → shown old key ≡ None → shown new key ≡ Some held → (0 < held.uses) × (held.uses ≡ times goals held.field.goal)
