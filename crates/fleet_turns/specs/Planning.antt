-- A planner of turns, and when it may plan a tick.
use Rattle.std.specs.Prelude.{◌≡◌, ◌↔◌, ℕ, ◌+◌, ◌^◌, ◌<◌, List, Option, Some, None, IsSome, replicate, length, slice_index}
use Rattle.fleet_grid.specs.Floor.{Floor, IsNeighbour}
use Rattle.fleet_grid.specs.Step.{IsPlacement}
use Rattle.fleet_grid.specs.Walk.{AreJoined}
use Rattle.fleet_pibt.specs.Order.{wait_of}
use Rattle.fleet_pibt.specs.Size.{Size}
use Rattle.fleet_planner.specs.Courses.{Courses, goals_of, AreOn}
use Rattle.fleet_planner.specs.Lending.{goal_at}
use Rattle.turns_law.specs.Turns.{Turns, AreTurns}

-- a planner of turns: what it plans by, what the robots are under way to, and for how many cells and robots its tables were made
pub record TurnPlanner : Type 0 where
  pub turns : Turns
  pub courses : Courses
  pub stepper : Size

-- a planner of this many robots on the map
pub record IsPlannerOf (m : Floor) (robots : ℕ) (p : TurnPlanner) : Type 0 where
  pub turns : AreTurns m p.turns
  pub many : p.turns.robots ≡ robots
  pub asked : length (goals_of p.courses) ≡ robots
  pub on : AreOn m p.courses
  pub made : p.stepper ≡ record { cells = length m.letters; robots = robots }

-- one whose robots have no goals
pub record IsNewPlanner (m : Floor) (robots : ℕ) (p : TurnPlanner) : Type 0 where
  pub planner : IsPlannerOf m robots p
  pub none : goals_of p.courses ≡ replicate robots None

-- a robot on this cell waits exactly while it has a goal, to which a walk leads; and it has not waited for so long that ranks have no room
pub record IsReadyAt (m : Floor) (cell : ℕ) (goal wait : Option ℕ) : Type 0 where
  pub waited : IsSome goal ↔ IsSome wait
  pub reached : (g : ℕ) → goal ≡ Some g → AreJoined (IsNeighbour m) cell g
  pub early : (w : ℕ) → wait ≡ Some w → w + 1 < 2 ^ 63

-- a tick of robots on these cells, with these goals, that have waited so long, may be planned
pub record IsReady (m : Floor) (goals : List (Option ℕ)) (cells : List ℕ) (waits : List (Option ℕ)) : Type 0 where
  pub placed : IsPlacement m cells
  pub asked : length goals ≡ length cells
  pub waiting : length waits ≡ length cells
  pub each : (r : ℕ) → r < length cells → IsReadyAt m (slice_index cells r) (goal_at goals r) (wait_of waits r)
