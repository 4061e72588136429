-- What `begin` gives.
use Rattle.std.specs.Prelude.{◌≡◌, ℕ, ◌+◌, ◌-◌, ◌<◌, ◌≤◌, ◌⊎◌, Some, None}
use Rattle.execution_law.specs.Run.{Moves}
use Rattle.execution_law.specs.Rule.{MayBegin, MayBeginAlone}
use Rattle.execution_law.specs.Change.{Begins, Reports}
use Rattle.fleet_execution.specs.declared.motion.Move.{Move}
use Rattle.fleet_execution.specs.declared.standing.Standing.{Standing}
use Rattle.fleet_execution.specs.declared.state.beginning.Beginning.{Beginning}
use Rattle.fleet_execution.specs.declared.state.beginning.Beginning.TheVariants.{Alone, Turning}
use Rattle.fleet_execution.specs.Course.{Course, put}
use Rattle.fleet_execution.specs.Desk.{Desk}
use Rattle.fleet_execution.specs.Executes.{AreReturned, Executes, moves_between}
use Rattle.fleet_execution.specs.Asked.{MayTurnIn, IsNextIn}

-- the move is that of its robot in its step
pub record IsMove (o : Course) (m : Move) : Type 0 where
  pub inside : m.robot < o.run.plan.robots
  pub moves : Moves o.run.plan m.robot m.tick
  pub from : m.from ≡ o.run.plan.cell (m.tick - 1) m.robot
  pub to : m.to ≡ o.run.plan.cell m.tick m.robot

-- the move was not returned before: it begins now, where each move that has begun was returned; or it has begun with a cycle
abbrev pub Gives : Course → Move → Desk → Type 0
Gives o m d = IsMove o m × (o.returned m.robot < m.tick) × (
    ((b : ℕ → ℕ) × AreReturned o × Begins o.run m.robot m.tick b × Executes d (record { run = record o.run { begun = b }; returned = put o.returned m.robot m.tick }))
    ⊎ ((o.run.begun m.robot ≡ m.tick) × Executes d (record { run = o.run; returned = put o.returned m.robot m.tick })))

-- how the next move of robot r may begin
abbrev pub IsBeginning : Desk → ℕ → Beginning → Type 0
IsBeginning d r (Alone t) = (o : Course) → Executes d o → AreReturned o → MayBeginAlone o.run r t
IsBeginning d r (Turning t) = IsNextIn d r t × ((size : ℕ) × MayTurnIn d t r size)

-- the next move of robot r may not begin
abbrev pub MayNotBegin : Desk → ℕ → Type 0
MayNotBegin d r = (o : Course) → Executes d o → AreReturned o → (t : ℕ) → MayBegin o.run r t → ⊥

-- a robot that is under way has reached the cell of its move
abbrev pub IsReported : Course → Move → Desk → Type 0
IsReported o m d = IsMove o m × (o.returned m.robot ≡ m.tick) × ((c : ℕ → ℕ) × Reports o.run m.robot c × Executes d (record o { run = record o.run { reached = c } }))

-- where robot r is: the cell that it reached last, and the cell to which it is under way
pub record IsStanding (o : Course) (r : ℕ) (s : Standing) : Type 0 where
  pub inside : r < o.run.plan.robots
  pub cell : s.cell ≡ o.run.plan.cell (o.run.reached r) r
  pub still : o.returned r ≡ o.run.reached r → s.bound_for ≡ None
  pub moving : o.run.reached r < o.returned r → s.bound_for ≡ Some (o.run.plan.cell (o.returned r) r)
  pub left : s.left ≡ moves_between o.run.plan r (o.returned r) o.run.plan.steps

-- the first step with a move that is not reached is the first of the last n planned steps; all moves are reached if n is 0
pub record IsBehind (o : Course) (n : ℕ) : Type 0 where
  pub within : n ≤ o.run.plan.steps
  pub first : 0 < n → (r : ℕ) × (r < o.run.plan.robots) × Moves o.run.plan r (o.run.plan.steps + 1 - n) × (o.run.reached r < o.run.plan.steps + 1 - n)
  pub before : (r t : ℕ) → r < o.run.plan.robots → t + n ≤ o.run.plan.steps → Moves o.run.plan r t → t ≤ o.run.reached r

-- a further step may be planned: each move that lies this many steps before it is reached
pub record HasRoomFor (o : Course) (ahead : ℕ) : Type 0 where
  pub more : o.run.plan.steps < 18446744073709551615
  pub reached : (r t : ℕ) → r < o.run.plan.robots → t + ahead ≤ o.run.plan.steps + 1 → Moves o.run.plan r t → t ≤ o.run.reached r
