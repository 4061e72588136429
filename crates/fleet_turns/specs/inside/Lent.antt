-- The robots' goals while a turn is lent.
use Rattle.std.specs.Prelude.{◌≡◌, ℕ, ◌==◌, List, Option, Some, None, if◌then◌else◌, slice_index}
use Rattle.fleet_grid.specs.Floor.{Floor}
use Rattle.fleet_planner.specs.Courses.{Courses, AreOn, goal, way_to}
use Rattle.turns_law.specs.Turns.{AreAway}

-- the lender goes to this core, and all others where they went
abbrev pub goal_lent : Option ℕ → (core : ℕ) → Courses → ℕ → Option ℕ
goal_lent None core courses robot = goal courses robot
goal_lent (Some lender) core courses robot = if robot == lender then Some core else goal courses robot

-- how far the cell is from the robot's goal
abbrev pub way_lent : Option ℕ → (core : ℕ) → Courses → Floor → ℕ → ℕ → Option ℕ
way_lent lender core courses m robot cell = way_to m (goal_lent lender core courses robot) cell

-- all is of this map, and the lender's goal is the core of its own part
pub record AreLent (m : Floor) (core away : List ℕ) (lender : Option ℕ) (goal : ℕ) (courses : Courses) : Type 0 where
  pub on : AreOn m courses
  pub away_is : AreAway m core away
  pub own : (x : ℕ) → lender ≡ Some x → slice_index core goal ≡ goal
