-- What a distance field shows.
use Rattle.std.specs.Prelude.{◌≡◌, ℕ, List, [], Option, Some, None, MatchOption, length, slice_get, slice_index_or}
use Rattle.fleet_grid.specs.Floor.{Floor, IsFloor, IsNeighbour}
use Rattle.fleet_grid.specs.Walk.{IsDistance, AreApart}
use Rattle.fleet_grid.specs.Ways.{AreOpen}

-- a goal, and for each cell its distance to it, if there is one; and each cell's exits, or no list of them
pub record Aim : Type 0 where
  pub goal : ℕ
  pub away : List (Option ℕ)
  pub exits : List ℕ

-- a goal and its distances, without exits
abbrev pub aim_of : ℕ → List (Option ℕ) → Aim
aim_of goal away = record { goal = goal; away = away; exits = [] }

-- the field of a map and a goal: each cell's distance is the least number of edges of a walk to the goal, and there is
-- none exactly where no walk leads there; the exits of a floor cell lead to its floor neighbours
pub record IsField (m : Floor) (aimed : ℕ) (field : Aim) : Type 0 where
  pub goal : field.goal ≡ aimed
  pub covers : length field.away ≡ length m.letters
  pub each : (cell : ℕ) → MatchOption (slice_index_or field.away cell None) (AreApart (IsNeighbour m) cell aimed) (λ d. IsDistance (IsNeighbour m) cell aimed d)
  pub opens : (cell exits : ℕ) → IsFloor m cell → slice_get field.exits cell ≡ Some exits → AreOpen m cell exits
