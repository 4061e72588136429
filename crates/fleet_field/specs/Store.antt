-- A store of shared fields: at each key the field that is held, with the number of its holds, or nothing.
use Rattle.std.specs.Prelude.{◌≡◌, ◌≢◌, ℕ, ◌+◌, ◌-◌, ◌^◌, ◌<◌, List, Option, Some, None, slice_index_or, cond, nat_le}
use Rattle.std.specs.List.{All}
use Rattle.fleet_grid.specs.Floor.{Floor}
use Rattle.fleet_field.specs.Field.{Aim, IsField}
use Rattle.fleet_field.specs.FieldCache.{FieldCache}
use Rattle.fleet_field.specs.declared.store.Held.{Held}

-- what stands at a key
abbrev pub shown : List (Option (Held Aim)) → ℕ → Option (Held Aim)
shown store key = slice_index_or store key None

-- each held field is one of this map: the store serves it
abbrev pub Serves : Floor → List (Option (Held Aim)) → Type 0
Serves m store = (key : ℕ) (held : Held Aim) → shown store key ≡ Some held → IsField m held.field.goal held.field

-- each kept field is one of this map
abbrev pub Keeps : Floor → FieldCache → Type 0
Keeps m cache = All (λ field. IsField m field.goal field) cache.kept

-- a goal can be held this many times more
abbrev pub HasUsesLeft : List (Option (Held Aim)) → ℕ → ℕ → Type 0
HasUsesLeft store aimed more = (key : ℕ) (held : Held Aim) → shown store key ≡ Some held → held.field.goal ≡ aimed → held.uses + more < 2 ^ 32

-- what was held at a key is held once more; where nothing was, the goal's field is held once
abbrev pub IsHeldMore : Floor → ℕ → Option (Held Aim) → Option (Held Aim) → Type 0
IsHeldMore m aimed (Some held) now = (held.field.goal ≡ aimed) × (now ≡ Some (record held { uses = held.uses + 1 }))
IsHeldMore m aimed None now = (held : Held Aim) × (now ≡ Some held) × IsField m aimed held.field × (held.uses ≡ 1)

-- a hold of a goal: it takes the key that shows the goal, if there is one, and no other key shows anything else
pub record IsHold (m : Floor) (aimed : ℕ) (old new : List (Option (Held Aim))) (key : ℕ) : Type 0 where
  pub shared : (other : ℕ) (held : Held Aim) → shown old other ≡ Some held → held.field.goal ≡ aimed → other ≡ key
  pub held : IsHeldMore m aimed (shown old key) (shown new key)
  pub others : (other : ℕ) → other ≢ key → shown new other ≡ shown old other

-- what a key shows after one hold less
abbrev pub after_release : Held Aim → Option (Held Aim)
after_release held = cond (nat_le held.uses 1) None (Some (record held { uses = held.uses - 1 }))

-- one hold of the key less, and no other key shows anything else
pub record IsRelease (old new : List (Option (Held Aim))) (key : ℕ) : Type 0 where
  pub released : (held : Held Aim) → shown old key ≡ Some held → shown new key ≡ after_release held
  pub others : (other : ℕ) → other ≢ key → shown new other ≡ shown old other

-- no two keys show one goal
abbrev pub IsOnce : List (Option (Held Aim)) → Type 0
IsOnce store = (j k : ℕ) (a b : Held Aim) → shown store j ≡ Some a → shown store k ≡ Some b → a.field.goal ≡ b.field.goal → j ≡ k
