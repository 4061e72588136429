-- What the robots of a fleet aim at: for each robot its goal with the distances to it, or nothing.
use Rattle.std.specs.Prelude.{◌≡◌, ℕ, List, Option, Some, None, map, slice_index_or}
use Rattle.fleet_grid.specs.Floor.{Floor, IsFloor}
use Rattle.fleet_field.specs.Field.{Aim, IsField}

-- the goal of what a robot aims at; `None` where it aims at nothing
abbrev pub goal_in : Option Aim → Option ℕ
goal_in None = None
goal_in (Some aim) = Some aim.goal

-- how far the cell is from that goal; `None` where it aims at nothing, or no walk leads there
abbrev pub distance_in : Option Aim → ℕ → Option ℕ
distance_in None cell = None
distance_in (Some aim) cell = slice_index_or aim.away cell None

-- each robot's goal
abbrev pub goals_of : List (Option Aim) → List (Option ℕ)
goals_of aims = map goal_in aims

-- what the robot aims at
abbrev pub aim_at : List (Option Aim) → ℕ → Option Aim
aim_at aims robot = slice_index_or aims robot None

-- the robot's goal
abbrev pub goal : List (Option Aim) → ℕ → Option ℕ
goal aims robot = goal_in (aim_at aims robot)

-- how far the cell is from the robot's goal
abbrev pub distance : List (Option Aim) → ℕ → ℕ → Option ℕ
distance aims robot cell = distance_in (aim_at aims robot) cell

-- the goal is a floor cell of the map, and its distances are those on the map
pub record IsOn (m : Floor) (aim : Aim) : Type 0 where
  pub floor : IsFloor m aim.goal
  pub field : IsField m aim.goal aim

-- each robot that aims at a goal aims at one on the map
abbrev pub AreOn : Floor → List (Option Aim) → Type 0
AreOn m aims = (robot : ℕ) (aim : Aim) → aim_at aims robot ≡ Some aim → IsOn m aim

-- each goal among these is a floor cell of the map
abbrev pub AreFloor : Floor → List (Option ℕ) → Type 0
AreFloor m goals = (robot cell : ℕ) → slice_index_or goals robot None ≡ Some cell → IsFloor m cell
