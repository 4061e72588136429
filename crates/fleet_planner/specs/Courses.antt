-- What the robots of a fleet are under way to. A robot's goal is that of a field of its own, which grows as far as it is asked, or
-- else that of a whole field, which robots share.
use Rattle.std.specs.Prelude.{◌≡◌, ℕ, List, [], ◌∷◌, Option, Some, None, map, slice_index_or}
use Rattle.fleet_grid.specs.Floor.{Floor}
use Rattle.fleet_grid.specs.Distance.{distance}
use Rattle.fleet_field.specs.Field.{Aim}
use Rattle.fleet_field.specs.declared.growing.GrowingField.{GrowingField}
use Rattle.fleet_field.specs.Growing.{Growth, IsGrown, growth_of}
use Rattle.fleet_planner.specs.Aims.{goals_of as shared_goals, AreOn as AreSharedOn}

-- what each robot aims at by a shared field, and each robot's own field
pub record Courses : Type 0 where
  pub shared : List (Option Aim)
  pub own : List (Option Growth)

-- what a robot's own field knows; `None` where it has none
abbrev pub growth_in : {A : Type 0} → Option (GrowingField A) → Option Growth
growth_in None = None
growth_in (Some field) = Some (growth_of field)

-- the goal of a robot's own field; `None` where it has none
abbrev pub own_goal : Option Growth → Option ℕ
own_goal None = None
own_goal (Some field) = Some field.goal

-- the goal of the own field, or else that of the shared one
abbrev pub first_of : Option ℕ → Option ℕ → Option ℕ
first_of (Some goal) shared = Some goal
first_of None shared = shared

-- each robot's goal: that of its own field, or else that of the shared one
abbrev pub merged : List (Option ℕ) → List (Option ℕ) → List (Option ℕ)
merged own [] = []
merged [] (s ∷ shared) = s ∷ shared
merged (o ∷ own) (s ∷ shared) = first_of o s ∷ merged own shared

-- each robot's goal
abbrev pub goals_of : Courses → List (Option ℕ)
goals_of c = merged (map own_goal c.own) (shared_goals c.shared)

-- the robot's goal
abbrev pub goal : Courses → ℕ → Option ℕ
goal c robot = slice_index_or (goals_of c) robot None

-- how far the cell is from a goal
abbrev pub way_to : Floor → Option ℕ → ℕ → Option ℕ
way_to m None cell = None
way_to m (Some aimed) cell = distance m cell aimed

-- how far the cell is from the robot's goal
abbrev pub away : Courses → Floor → ℕ → ℕ → Option ℕ
away c m robot cell = way_to m (goal c robot) cell

-- each field is one of this map, and so is each goal
pub record AreOn (m : Floor) (c : Courses) : Type 0 where
  pub shared : AreSharedOn m c.shared
  pub grown : (robot : ℕ) (field : Growth) → slice_index_or c.own robot None ≡ Some field → IsGrown m field

-- the goals stay, and there are as many robots
pub record AreStill (old new : Courses) : Type 0 where
  pub shared : new.shared ≡ old.shared
  pub own : map own_goal new.own ≡ map own_goal old.own
