-- What is kept in lists.
use Rattle.std.specs.Prelude.{◌≡◌, ℕ, ◌*◌, ◌<◌, length}
use Rattle.fleet_execution.specs.declared.robot.Robot.{Robot}
use Rattle.fleet_execution.specs.declared.state.State.{State}
use Rattle.fleet_execution.specs.Course.{Course}
use Rattle.fleet_execution.specs.Desk.{Desk}
pub use Rattle.fleet_execution.specs.Kept.{Kept, nobody, blank, slot_of, desk}
use Rattle.fleet_execution.specs.Executes.{Executes}

-- what a state keeps, as callers see it
abbrev pub kept_of : {A : Type 0} → State A → Kept
kept_of s = record {
  clearance = s.clearance;
  count = s.count;
  ahead = s.ahead;
  steps = s.steps;
  robots = s.robots;
  window = s.window;
  unreached = s.unreached;
  leaves = s.leaves;
  ready = s.ready.items;
  turning = s.turning;
}

-- what a state keeps, as functions of robots, steps and cells
abbrev pub desk_of : {A : Type 0} → State A → Desk
desk_of s = desk (kept_of s)

-- the lists are as long as the numbers of robots, of steps and of cells ask
pub record IsSized {A : Type 0} (s : State A) : Type 0 where
  pub some : 0 < s.ahead
  pub robots : length s.robots ≡ s.count
  pub window : length s.window ≡ s.ahead * s.count
  pub unreached : length s.unreached ≡ s.ahead
  pub ready : s.ready.robots ≡ s.count
  pub marks : length s.marks ≡ length s.leaves
  pub small : length s.leaves < 4294967296

-- the lists are long enough, and what they have is that of some course
pub record IsSound {A : Type 0} (s : State A) : Type 0 where
  pub sized : IsSized s
  pub course : Course
  pub executes : Executes (desk_of s) course

-- a robot that stands on the cell, before its first move
abbrev pub standing_on : ℕ → Robot
standing_on cell = record { cell = cell; bound = cell; last = cell; returned = 0; reached = 0; turned = 0 }
