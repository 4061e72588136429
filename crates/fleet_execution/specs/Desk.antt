-- What an execution keeps, as functions of robots, steps and cells.
use Rattle.std.specs.Prelude.{◌≡◌, ℕ, zero, suc, ◌+◌, ◌-◌, List, Option, Some, None}
use Rattle.execution_law.specs.declared.clearance.Clearance.{Clearance}
use Rattle.fleet_execution.specs.declared.robot.Robot.{Robot}
use Rattle.fleet_execution.specs.declared.robot.Leave.{Leave}
use Rattle.fleet_execution.specs.declared.robot.Planned.{Planned}
use Rattle.fleet_execution.specs.declared.robot.Turning.{Turning}

-- `window r t` is what step t has for robot r
pub record Desk : Type 0 where
  pub clearance : Clearance
  -- the numbers of robots, of cells, of steps in the window, and of planned steps
  pub count : ℕ
  pub cells : ℕ
  pub ahead : ℕ
  pub steps : ℕ
  pub robot : ℕ → Robot
  pub window : ℕ → ℕ → Planned
  -- how many moves of a step are not reached, by step modulo `ahead`
  pub unreached : ℕ → ℕ
  -- who left the cell last in the plan
  pub leave : ℕ → Option Leave
  -- each robot whose next move may begin, or one of its cycle, and maybe more
  pub ready : List ℕ
  -- the cycle whose moves have begun, and were not all returned
  pub turning : Option Turning

-- the sum of a value for each of the numbers below n
abbrev pub total_below : ℕ → (ℕ → ℕ) → ℕ
total_below zero f = 0
total_below (suc n) f = f n + total_below n f

-- how many planned steps lie after each robot's last move that was returned, in sum: so often at most `begin` returns a move
abbrev pub steps_left : Desk → ℕ
steps_left d = total_below d.count (λ r. d.steps - (d.robot r).returned)

-- the map and the window stay
pub record HasSameBounds (d e : Desk) : Type 0 where
  pub cells : e.cells ≡ d.cells
  pub ahead : e.ahead ≡ d.ahead

-- the robot of the leave; robot r itself where there is none
abbrev pub leaver : Option Leave → ℕ → ℕ
leaver None r = r
leaver (Some l) r = l.robot

-- the robot that leaves the cell which robot r enters in step t; itself if there is none
abbrev pub before_in : (ℕ → ℕ → Planned) → ℕ → ℕ → ℕ
before_in window t r = leaver (window r t).after r

-- the robot to which k such steps lead
abbrev pub chain : (ℕ → ℕ) → ℕ → ℕ → ℕ
chain f r zero = r
chain f r (suc k) = f (chain f r k)
