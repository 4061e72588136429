-- How an execution goes on with a plan, and what is written of it.
use Rattle.std.specs.Prelude.{◌≡◌, ℕ, ◌+◌, ◌-◌, ◌*◌, ◌/◌, ◌<◌, ◌≤◌, ◌⊎◌, List, [], ◌∷◌, ◌++◌, take, drop, length}
use Rattle.execution_law.specs.Run.{Moves}
use Rattle.execution_law.specs.Rule.{MayBegin}
use Rattle.execution_law.specs.Change.{Begins}
use Rattle.fleet_execution.specs.declared.motion.Move.{Move}
use Rattle.fleet_execution.specs.Course.{Course, put, with_step}
use Rattle.fleet_execution.specs.Desk.{Desk}
use Rattle.fleet_execution.specs.Executes.{AreReturned, IsStep, Executes}
use Rattle.fleet_execution.specs.Given.{IsMove}
use Rattle.fleet_execute.specs.declared.fault.TurnFault.{TurnFault}
use Rattle.fleet_execute.specs.declared.fault.TurnFault.TheVariants.{Conflict, NoMemory}
use Rattle.fleet_execute.specs.declared.plan.Plan.{Plan}
use Rattle.fleet_execute.specs.Text.{move_line}

-- the robots' cells after this number of steps
abbrev pub cells_at : ℕ → List ℕ → ℕ → List ℕ
cells_at robots cells time = take robots (drop (time * robots) cells)

-- how many steps this number of cells is
abbrev pub steps_in : ℕ → List ℕ → ℕ
steps_in robots cells = length cells / robots - 1

-- how many steps the plan has
abbrev pub last_step : Plan → ℕ
last_step plan = steps_in plan.robots plan.cells.items

-- the robots' cells after this number of steps of the plan
abbrev pub step_at : Plan → ℕ → List ℕ
step_at plan time = cells_at plan.robots plan.cells.items time

-- the move is the next that is returned: it begins, where each that has begun was returned, or has begun with a cycle
abbrev pub Returned : Course → Move → Course → Type 0
Returned o m p = IsMove o m × (o.returned m.robot < m.tick) × (
    ((b : ℕ → ℕ) × AreReturned o × Begins o.run m.robot m.tick b × (p ≡ record { run = record o.run { begun = b }; returned = put o.returned m.robot m.tick }))
    ⊎ ((o.run.begun m.robot ≡ m.tick) × (p ≡ record { run = o.run; returned = put o.returned m.robot m.tick })))

-- from one course to another: the plan's next steps are planned, and these moves begin, in their order
pub data Goes (plan : Plan) (o : Course) : List Move → Course → Type 0 where
  stays : Goes plan o [] o
  plans : (ms : List Move) (p : Course) → Goes plan o ms p → p.run.plan.steps < last_step plan → Goes plan o ms (with_step p (step_at plan (p.run.plan.steps + 1)))
  returns : (ms : List Move) (m : Move) (p q : Course) → Goes plan o ms p → Returned p m q → Goes plan o (ms ++ m ∷ []) q

-- the execution has gone on so
pub record HasGone (plan : Plan) (o : Course) (ms : List Move) (d : Desk) : Type 0 where
  pub course : Course
  pub goes : Goes plan o ms course
  pub executes : Executes d course

-- the lines of moves
abbrev pub moves_text : List Move → List ℕ
moves_text [] = []
moves_text (m ∷ ms) = move_line m ++ moves_text ms

-- the execution has gone on until no move may begin; the moves that have begun are written after the text before
pub record HasTurned (plan : Plan) (o : Course) (before after : List ℕ) (d : Desk) : Type 0 where
  pub moves : List Move
  pub gone : HasGone plan o moves d
  pub written : after ≡ before ++ moves_text moves
  pub returned : AreReturned gone.course
  pub none : (r t : ℕ) → r < gone.course.run.plan.robots → MayBegin gone.course.run r t → ⊥

-- the execution has gone on to a step of the plan that is none from the last planned placement
abbrev pub HasMet : Plan → Course → TurnFault → Desk → Type 0
HasMet plan o (Conflict tick) d = HasGone plan o [] d × (tick ≡ d.steps + 1) × (tick ≤ last_step plan) × (IsStep d (step_at plan tick) → ⊥)
HasMet plan o NoMemory d = Unit {0}

-- all is planned, and each move is reached
pub record IsDone (plan : Plan) (o : Course) : Type 0 where
  pub planned : last_step plan ≤ o.run.plan.steps
  pub reached : (r t : ℕ) → r < o.run.plan.robots → t ≤ o.run.plan.steps → Moves o.run.plan r t → t ≤ o.run.reached r
