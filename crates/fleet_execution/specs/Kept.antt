-- What callers see of an execution.
use Rattle.std.specs.Prelude.{ℕ, ◌+◌, ◌*◌, ◌%◌, List, Option, None, length, slice_index, slice_index_or}
use Rattle.execution_law.specs.declared.clearance.Clearance.{Clearance}
use Rattle.fleet_execution.specs.declared.robot.Robot.{Robot}
use Rattle.fleet_execution.specs.declared.robot.Leave.{Leave}
use Rattle.fleet_execution.specs.declared.robot.Planned.{Planned}
use Rattle.fleet_execution.specs.declared.robot.Turning.{Turning}
use Rattle.fleet_execution.specs.Desk.{Desk}

-- what an execution keeps, as lists
pub record Kept : Type 0 where
  pub clearance : Clearance
  -- the numbers of robots, of steps in the window, and of planned steps
  pub count : ℕ
  pub ahead : ℕ
  pub steps : ℕ
  -- by robot
  pub robots : List Robot
  -- by step modulo `ahead`, and then by robot
  pub window : List Planned
  -- how many moves of a step are not reached, by step modulo `ahead`
  pub unreached : List ℕ
  -- who left the cell last in the plan, by cell
  pub leaves : List (Option Leave)
  -- each robot whose next move may begin, or one of its cycle, and maybe more
  pub ready : List ℕ
  -- the cycle whose moves have begun, and were not all returned
  pub turning : Option Turning

-- a robot that does not exist
abbrev pub nobody : Robot
nobody = record { cell = 0; bound = 0; last = 0; returned = 0; reached = 0; turned = 0 }

-- what a step that is not kept has for a robot
abbrev pub blank : Planned
blank = record { to = 0; after = None; follower = None }

-- the place of what step t has for robot r
abbrev pub slot_of : ℕ → ℕ → ℕ → ℕ → ℕ
slot_of ahead count r t = t % ahead * count + r

-- what is kept, as functions of robots, steps and cells
abbrev pub desk : Kept → Desk
desk k = record {
  clearance = k.clearance;
  count = k.count;
  cells = length k.leaves;
  ahead = k.ahead;
  steps = k.steps;
  robot = λ r. slice_index_or k.robots r nobody;
  window = λ r t. slice_index_or k.window (slot_of k.ahead k.count r t) blank;
  unreached = λ i. slice_index k.unreached i;
  leave = λ c. slice_index_or k.leaves c None;
  ready = k.ready;
  turning = k.turning;
}
