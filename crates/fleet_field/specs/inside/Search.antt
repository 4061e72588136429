-- The search over a padded list: 4294967294 is a wall, 4294967295 is not reached, and any other number
-- is a distance.
use Rattle.std.specs.Prelude.{◌≡◌, ◌≢◌, ℕ, ◌+◌, ◌<◌, ◌≤◌, ◌⊎◌, List, [], ◌∷◌, ◌++◌, length, slice_index, slice_set, cond, nat_eq}
use Rattle.std.specs.List.{sum_by, Contains}
use Rattle.fleet_grid.specs.Padded.{IsOpen}

-- b is next to a: above it, to its right, below it or to its left
abbrev pub IsBeside : ℕ → ℕ → ℕ → Type 0
IsBeside stride a b = ((a ≡ b + stride) ⊎ (b ≡ a + 1)) ⊎ ((b ≡ a + stride) ⊎ (a ≡ b + 1))

-- two open places, one next to the other
pub record IsLink (dist : List ℕ) (stride a b : ℕ) : Type 0 where
  pub from : IsOpen dist a
  pub to : IsOpen dist b
  pub side : IsBeside stride a b

-- each open place has its four neighbours in the list
abbrev pub IsWalled : List ℕ → ℕ → Type 0
IsWalled dist stride = (v : ℕ) → IsOpen dist v → (stride ≤ v) × (v + stride < length dist)

abbrev pub is_far : ℕ → ℕ
is_far d = cond (nat_eq d 4294967295) 1 0

-- how many places are not yet reached
abbrev pub far_count : List ℕ → ℕ
far_count dist = sum_by is_far dist

-- what one visit makes of the list and of the next front
abbrev pub IsVisit : List ℕ → List ℕ → ℕ → ℕ → List ℕ → List ℕ → Type 0
IsVisit old front cell level new next =
    ((slice_index old cell ≢ 4294967295) × (new ≡ old) × (next ≡ front))
    ⊎ ((slice_index old cell ≡ 4294967295) × (new ≡ slice_set old cell level) × (next ≡ front ++ cell ∷ []))

-- The search so far. `front` has the places of the last level, and each place below `closed` has been left
-- in all directions.
pub record Search (dist : List ℕ) (stride closed level : ℕ) (front : List ℕ) : Type 0 where
  pub walled : IsWalled dist stride
  -- a place of a level above 0 is next to one of the level below
  pub back : (v d : ℕ) → IsOpen dist v → slice_index dist v ≢ 4294967295 → slice_index dist v ≡ d + 1 → (u : ℕ) × IsLink dist stride v u × (slice_index dist u ≡ d)
  pub low : (v : ℕ) → IsOpen dist v → slice_index dist v ≢ 4294967295 → slice_index dist v ≤ level
  -- what is next to a place that was left is at most one level above it
  pub onward : (u v : ℕ) → IsLink dist stride u v → slice_index dist u < closed → slice_index dist v ≤ slice_index dist u + 1
  pub queued : (v : ℕ) → v < length dist → slice_index dist v ≡ level → Contains front v
  pub is_level : (v : ℕ) → Contains front v → (v < length dist) × (slice_index dist v ≡ level)

-- the new list has the old one's walls and distances, and more places at this level
pub record Keeps (old new : List ℕ) (level : ℕ) : Type 0 where
  pub len : length new ≡ length old
  pub each : (v : ℕ) → (slice_index new v ≡ slice_index old v) ⊎ ((slice_index old v ≡ 4294967295) × (slice_index new v ≡ level))

-- the search went on, from the places of `level` to some of the level after it
pub record Extends (stride level : ℕ) (old from new to : List ℕ) : Type 0 where
  pub search : Search new stride level (level + 1) to
  pub keeps : Keeps old new (level + 1)
  pub count : length to + far_count new ≡ length from + far_count old

-- the goal is the one place at 0
abbrev pub IsStart : List ℕ → ℕ → Type 0
IsStart dist goal = ((goal < length dist) × (slice_index dist goal ≡ 0)) × ((v : ℕ) → IsOpen dist v → slice_index dist v ≡ 0 → v ≡ goal)

-- the numbers are distances to the goal, as each place can see from its neighbours
pub record AreLevels (dist : List ℕ) (stride goal : ℕ) : Type 0 where
  pub start : (goal < length dist) × (slice_index dist goal ≡ 0)
  pub only : (v : ℕ) → IsOpen dist v → slice_index dist v ≡ 0 → v ≡ goal
  pub back : (v d : ℕ) → IsOpen dist v → slice_index dist v ≢ 4294967295 → slice_index dist v ≡ d + 1 → (u : ℕ) × IsLink dist stride v u × (slice_index dist u ≡ d)
  pub onward : (u v : ℕ) → IsLink dist stride u v → slice_index dist u ≢ 4294967295 → slice_index dist v ≤ slice_index dist u + 1
  pub low : (v : ℕ) → IsOpen dist v → slice_index dist v ≢ 4294967295 → slice_index dist v ≤ length dist

-- the same walls, and nowhere else
pub record SameWalls (blank dist : List ℕ) : Type 0 where
  pub len : length dist ≡ length blank
  pub kept : (v : ℕ) → IsOpen blank v → IsOpen dist v
  pub no_more : (v : ℕ) → IsOpen dist v → IsOpen blank v
