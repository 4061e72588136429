-- How several goals come to be held: first each has a field, perhaps without a use, and then the uses are counted.
use Rattle.std.specs.Prelude.{◌≡◌, ℕ, ◌+◌, ◌<◌, ◌==◌, cond, nat_le, List, Option, Some, None, length, slice_index}
use Rattle.std.specs.List.{Contains}
use Rattle.fleet_field.specs.Field.{Aim}
use Rattle.fleet_field.specs.Store.{shown, IsOnce}
use Rattle.fleet_field.specs.Several.{times}
use Rattle.fleet_field.specs.declared.store.Held.{Held}

-- some key shows the goal
abbrev pub HasGoal : List (Option (Held Aim)) → ℕ → Type 0
HasGoal store aimed = (key : ℕ) × (held : Held Aim) × (shown store key ≡ Some held) × (held.field.goal ≡ aimed)

-- the goal is one of these
abbrev pub IsOneOf : List ℕ → ℕ → Type 0
IsOneOf goals aimed = (k : ℕ) × (k < length goals) × (slice_index goals k ≡ aimed)

-- what stood there stands, and what was put in is one of the fields, without a use
pub record IsFilled (fields : List Aim) (old new : List (Option (Held Aim))) : Type 0 where
  pub once : IsOnce new
  pub kept : (key : ℕ) (held : Held Aim) → shown old key ≡ Some held → shown new key ≡ Some held
  pub fresh : (key : ℕ) (held : Held Aim) → shown old key ≡ None → shown new key ≡ Some held → (held.uses ≡ 0) × Contains fields held.field

-- each key has as many uses more as its goal is among these
pub record IsUsed (goals : List ℕ) (old new : List (Option (Held Aim))) : Type 0 where
  pub once : IsOnce new
  pub more : (key : ℕ) (held : Held Aim) → shown old key ≡ Some held → shown new key ≡ Some (record held { uses = held.uses + times goals held.field.goal })
  pub none : (key : ℕ) → shown old key ≡ None → shown new key ≡ None

-- a key has one use more if it shows the goal
pub record IsUsedOnce (aimed : ℕ) (old new : List (Option (Held Aim))) : Type 0 where
  pub once : IsOnce new
  pub more : (key : ℕ) (held : Held Aim) → shown old key ≡ Some held → shown new key ≡ Some (record held { uses = held.uses + cond (aimed == held.field.goal) 1 0 })
  pub none : (key : ℕ) → shown old key ≡ None → shown new key ≡ None

-- each goal's key shows it
pub record AreShown (goals : List ℕ) (store : List (Option (Held Aim))) (keys : List ℕ) : Type 0 where
  pub count : length keys ≡ length goals
  pub shows : (i : ℕ) → i < length goals → (held : Held Aim) × (shown store (slice_index keys i) ≡ Some held) × (held.field.goal ≡ slice_index goals i)

-- one of the fields is that of the goal
abbrev pub HasFieldOf : List Aim → ℕ → Type 0
HasFieldOf fields aimed = (field : Aim) × Contains fields field × (field.goal ≡ aimed)

-- the fields are put in, and then each goal has one use more under its key
pub record AreUsed (fields : List Aim) (goals : List ℕ) (old new : List (Option (Held Aim))) (keys : List ℕ) : Type 0 where
  pub all : List (Option (Held Aim))
  pub filled : IsFilled fields old all
  pub used : IsUsed goals all new
  pub shown : AreShown goals new keys

-- the goal of each key that shows a field stands at the key's place
abbrev pub AreGoalsOf : List (Option (Held Aim)) → List ℕ → Type 0
AreGoalsOf store goals = (key : ℕ) (at : Held Aim) → shown store key ≡ Some at → (key < length goals) × (slice_index goals key ≡ at.field.goal)

-- the capacity of a slab, where a list of this many goals has a place for each of its keys
abbrev pub covered : ℕ → ℕ → ℕ
covered capacity goals = cond (nat_le capacity goals) capacity 0
