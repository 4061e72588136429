-- Vehicles follow a course: what is kept of them agrees with it.
use Rattle.std.specs.Prelude.{◌≡◌, ℕ, ◌<◌, ◌≤◌, List, ◌++◌, length}
use Rattle.std.specs.List.{AllByRecursion}
use Rattle.execution_law.specs.Run.{Plan, Moves}
use Rattle.execution_law.specs.Change.{Reports}
use Rattle.fleet_execution.specs.Course.{Course}
use Rattle.fleet_execution.specs.Executes.{Executes, IsStep}
use Rattle.fleet_execution.specs.Kept.{Kept, desk}
use Rattle.fleet_execution.specs.Stepped.{HasRoom}
use Rattle.live_vehicles.specs.declared.place.Place.{Place}
use Rattle.live_vehicles.specs.declared.stand.Stand.{Stand}
use Rattle.live_vehicles.specs.declared.vehicles.Vehicles.{Vehicles}
use Rattle.live_vehicles.specs.Places.{place_of}

-- of a robot: its last planned move, since which it stays on its cell; and its last moves that have begun and that it has reached
pub record IsPlaced (o : Course) (r : ℕ) (p : Place) : Type 0 where
  pub within : p.moved ≤ o.run.plan.steps
  pub still : (t : ℕ) → p.moved ≤ t → t ≤ o.run.plan.steps → o.run.plan.cell t r ≡ p.cell
  pub moves : 0 < p.moved → Moves o.run.plan r p.moved
  pub begun : p.begun ≡ o.returned r
  pub reached : p.reached ≡ o.run.reached r

-- what is kept of an execution and of its robots agrees with a course
pub record Tracks (kept : Kept) (places : List Place) (o : Course) : Type 0 where
  pub executes : Executes (desk kept) o
  pub count : length places ≡ o.run.plan.robots
  pub placed : (r : ℕ) → r < o.run.plan.robots → IsPlaced o r (place_of places r)

-- An arrival whose robot is not there yet: it is planned to come to the cell by its move of step `last`, and to stay there up to the step of the arrival
pub record IsAwaited (o : Course) (s : Stand) : Type 0 where
  pub inside : s.robot < o.run.plan.robots
  pub before : s.last ≤ s.step
  pub planned : s.step ≤ o.run.plan.steps
  pub moves : Moves o.run.plan s.robot s.last
  pub still : (t : ℕ) → s.last ≤ t → t ≤ s.step → o.run.plan.cell t s.robot ≡ s.cell
  pub late : o.run.reached s.robot < s.last

-- The robot really stands on the cell of the arrival: it has reached each of its moves up to then, and is not under way
pub record Stands (o : Course) (s : Stand) : Type 0 where
  pub reached : (t : ℕ) → t ≤ s.step → Moves o.run.plan s.robot t → t ≤ o.run.reached s.robot
  pub cell : o.run.plan.cell (o.run.reached s.robot) s.robot ≡ s.cell
  pub still : o.returned s.robot ≡ o.run.reached s.robot

abbrev pub IsOn : Course → Stand → Type 0
IsOn o s = s.robot < o.run.plan.robots → Stands o s

-- those that were added stand where they are to
pub record AreOn (o : Course) (before after : List Stand) : Type 0 where
  pub more : List Stand
  pub added : after ≡ before ++ more
  pub each : AllByRecursion (IsOn o) more

pub record Follows (v : Vehicles) (o : Course) : Type 0 where
  pub tracks : Tracks v.run v.places.items o
  pub awaited : AllByRecursion (IsAwaited o) v.waits.items

-- no turn can be planned: there is no room, or these cells are no step
abbrev pub IsNoTurn : Vehicles → List ℕ → Type 0
IsNoTurn v to = (o : Course) → Follows v o → HasRoom (desk v.run) → IsStep (desk v.run) to → ⊥

-- the robot is not under way
abbrev pub IsIdle : Course → ℕ → Type 0
IsIdle o r = r < o.run.plan.robots → o.returned r ≡ o.run.reached r

-- the course on which robots have reached this
abbrev pub with_reached : Course → (ℕ → ℕ) → Course
with_reached o c = record o { run = record o.run { reached = c } }

-- a robot that is under way has reached the cell of its move in this step
pub record HasTaken (o : Course) (r step : ℕ) (kept : Kept) (places : List Place) : Type 0 where
  pub reached : ℕ → ℕ
  pub reports : Reports o.run r reached
  pub step_is : reached r ≡ step
  pub tracks : Tracks kept places (with_reached o reached)

pub record HasReached (o : Course) (r : ℕ) (before after : List Stand) (v : Vehicles) : Type 0 where
  pub reached : ℕ → ℕ
  pub reports : Reports o.run r reached
  pub follows : Follows v (with_reached o reached)
  pub on : AreOn (with_reached o reached) before after
