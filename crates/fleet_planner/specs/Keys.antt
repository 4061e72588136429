-- How the robots' keys lie in the store of fields.
use Rattle.std.specs.Prelude.{◌≡◌, ℕ, ◌+◌, ◌<◌, ◌≤◌, ◌==◌, Bool, false, cond, List, [], Option, Some, None, length, map, count_by, slice_index_or, IsSome}
use Rattle.fleet_field.specs.Field.{Aim}
use Rattle.fleet_field.specs.Store.{shown, IsOnce}
use Rattle.fleet_field.specs.declared.store.Held.{Held}

-- the field that is held; `None` where none is
abbrev pub field_in : Option (Held Aim) → Option Aim
field_in None = None
field_in (Some held) = Some held.field

-- what a robot with this key aims at
abbrev pub field_at : List (Option (Held Aim)) → Option ℕ → Option Aim
field_at store None = None
field_at store (Some key) = field_in (shown store key)

-- what the robots aim at
abbrev pub fields_of : List (Option (Held Aim)) → List (Option ℕ) → List (Option Aim)
fields_of store keys = map (field_at store) keys

-- the robot's key
abbrev pub key_at : List (Option ℕ) → ℕ → Option ℕ
key_at keys robot = slice_index_or keys robot None

-- whether this is the robot's key; it may have none
abbrev pub is_key : ℕ → Option ℕ → Bool
is_key key None = false
is_key key (Some own) = own == key

-- 1 for the key itself
abbrev pub one_at : ℕ → Option ℕ → ℕ
one_at key own = cond (is_key key own) 1 0

-- how many robots have the key
abbrev pub holders : List (Option ℕ) → ℕ → ℕ
holders keys key = count_by (is_key key) keys

-- how often what stands there is held
abbrev pub uses_in : Option (Held Aim) → ℕ
uses_in None = 0
uses_in (Some held) = held.uses

-- each key is held as often as robots have it, and it is among the spare ones
pub record AreCounted (store : List (Option (Held Aim))) (keys : List (Option ℕ)) (spare : List (Option ℕ)) : Type 0 where
  pub once : IsOnce store
  pub used : (key : ℕ) (held : Held Aim) → shown store key ≡ Some held → 0 < held.uses
  pub counted : (key : ℕ) → uses_in (shown store key) ≡ holders keys key + holders spare key

-- the keys of at most 512 robots, none held for anybody else
pub record AreOwn (store : List (Option (Held Aim))) (keys : List (Option ℕ)) : Type 0 where
  pub few : length keys ≤ 512
  pub counted : AreCounted store keys []

-- each robot's key shows a field
abbrev pub AreShowing : List (Option (Held Aim)) → List (Option ℕ) → Type 0
AreShowing store keys = (robot key : ℕ) → key_at keys robot ≡ Some key → IsSome (shown store key)

-- each field that is shown was shown at that key before
abbrev pub AreKept : List (Option (Held Aim)) → List (Option (Held Aim)) → Type 0
AreKept old new = (key : ℕ) (held : Held Aim) → shown new key ≡ Some held → (was : Held Aim) × (shown old key ≡ Some was) × (was.field ≡ held.field)
