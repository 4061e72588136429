-- How far the robots' own fields are searched for the cells on which the robots stand.
use Rattle.std.specs.Prelude.{⊤, ◌≡◌, ℕ, ◌<◌, ◌≤◌, Bool, true, false, List, Option, Some, None, IsSome, length, slice_index, slice_index_or}
use Rattle.fleet_grid.specs.Floor.{Floor, IsFloor}
use Rattle.fleet_field.specs.Growing.{Growth, IsGrown, Tells, cells_left}
use Rattle.fleet_planner.specs.Courses.{Courses, goal}

-- each field is one of this map
abbrev pub AreGrown : Floor → List (Option Growth) → Type 0
AreGrown m own = (r : ℕ) (field : Growth) → slice_index_or own r None ≡ Some field → IsGrown m field

-- the field, if there is one, tells the ways from the cell, if that is floor
abbrev pub IsTold : Floor → Option Growth → ℕ → Type 0
IsTold m None cell = ⊤
IsTold m (Some field) cell = IsFloor m cell → Tells m field cell

-- there is a field, the cell is floor, and the search has cells left
abbrev pub IsUntold : Floor → Option Growth → ℕ → Type 0
IsUntold m None cell = ⊥
IsUntold m (Some field) cell = IsFloor m cell × (0 < cells_left field)

-- each robot's own field tells the ways from its cell: a tick from these cells searches nothing
abbrev pub AreTold : Floor → List (Option Growth) → List ℕ → Type 0
AreTold m own cells = (r : ℕ) → r < length cells → IsTold m (slice_index_or own r None) (slice_index cells r)

-- one robot's own field is still to be searched for its cell
pub record IsUntoldAt (m : Floor) (own : List (Option Growth)) (cells : List ℕ) (r : ℕ) : Type 0 where
  pub known : r < length cells
  pub untold : IsUntold m (slice_index_or own r None) (slice_index cells r)

-- a robot that lacks its field has a goal
pub record Lacks (m : Floor) (c : Courses) (cells : List ℕ) (r : ℕ) : Type 0 where
  pub goal : IsSome (goal c r)
  pub is : IsUntoldAt m c.own cells r

-- how many robots lack their fields: 0 exactly if none does
pub record AreMissing (m : Floor) (c : Courses) (cells : List ℕ) (count : ℕ) : Type 0 where
  pub none : count ≡ 0 → AreTold m c.own cells
  pub some : 0 < count → (r : ℕ) × Lacks m c cells r
  pub few : count ≤ length cells

-- what one search does: nothing if no robot lacks its field; else one of those that do lacks it no more
pub record IsSearch (m : Floor) (cells : List ℕ) (old new : Courses) (searched : Bool) : Type 0 where
  pub none : searched ≡ false → AreTold m old.own cells
  pub same : searched ≡ false → new ≡ old
  pub one : searched ≡ true → (r : ℕ) × Lacks m old cells r × IsTold m (slice_index_or new.own r None) (slice_index cells r)
