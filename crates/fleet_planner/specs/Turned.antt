-- The goals after several turns.
use Rattle.std.specs.Prelude.{◌≡◌, ℕ, ◌<◌, List, [], ◌∷◌, Option, Some, slice_get, slice_set}
use Rattle.fleet_grid.specs.Floor.{Floor, IsFloor}
use Rattle.fleet_planner.specs.declared.turns.GoalChange.{GoalChange}

-- each turn gives its robot its goal, the first one first
unfoldable pub turned : List GoalChange → List (Option ℕ) → List (Option ℕ)
turned [] goals = goals
turned (t ∷ turns) goals = turned turns (slice_set goals t.robot t.goal)

-- each robot that turns is one of this many
abbrev pub AreKnownTurns : ℕ → List GoalChange → Type 0
AreKnownTurns robots turns = (i : ℕ) (t : GoalChange) → slice_get turns i ≡ Some t → t.robot < robots

-- each goal that is turned to is a floor cell of the map
abbrev pub AreFloorTurns : Floor → List GoalChange → Type 0
AreFloorTurns m turns = (i : ℕ) (t : GoalChange) (cell : ℕ) → slice_get turns i ≡ Some t → t.goal ≡ Some cell → IsFloor m cell
