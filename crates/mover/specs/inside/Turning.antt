-- A fleet whose robots take turns.
use Rattle.std.specs.Prelude.{◌≡◌, ℕ, false, Some, None, replicate}
use Rattle.fleet_grid.specs.Floor.{Floor}
use Rattle.fleet_field.specs.FieldCache.{FieldCache}
use Rattle.fleet_field.specs.Store.{Keeps}
use Rattle.fleet_pibt.specs.Size.{Size}
use Rattle.fleet_planner.specs.Aimed.{Planner}
use Rattle.fleet_planner.specs.Courses.{Courses, goals_of}
use Rattle.fleet_turns.specs.Planning.{TurnPlanner, IsNewPlanner}
use Rattle.turns_law.specs.Turns.{Turns}
use Rattle.mover.specs.Moving.{Mover}

-- what its ticks are planned by, and the fields of goals that no robot has any more
pub record TurnFleet : Type 0 where
  pub turns : Turns
  pub aims : Courses
  pub size : Size
  pub kept : FieldCache

-- a planner as that of turns has it
abbrev pub turn_planner : TurnFleet → TurnPlanner
turn_planner f = record { turns = f.turns; courses = f.aims; stepper = f.size }

-- a planner whose map has a bridge
abbrev pub planner_of : TurnFleet → Planner
planner_of f = record { aims = f.aims; size = f.size; bridgeless = false; kept = f.kept }

abbrev pub moved : TurnFleet → Mover
moved f = record { planner = planner_of f; turns = Some f.turns }

-- one of n robots that have no goals
pub record IsNewFleet (m : Floor) (n : ℕ) (f : TurnFleet) : Type 0 where
  pub planner : IsNewPlanner m n (turn_planner f)
  pub keeps : Keeps m f.kept
