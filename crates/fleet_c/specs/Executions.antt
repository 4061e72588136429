-- What the calls on an execution answer C.
use Rattle.std.specs.Prelude.{ℕ, ◌≡◌, ◌≢◌, ◌↔◌, ◌<◌, ◌≤◌, ◌==◌, if◌then◌else◌, List, Option, None, Some, MatchOption, IsSomeAnd, is_some, IsTrue, true, false}
use Rattle.execution_law.specs.declared.clearance.Clearance.{Clearance}
use Rattle.execution_law.specs.declared.clearance.Clearance.TheVariants.{Arrived, Started}
use Rattle.execution_law.specs.Rule.{MayBegin}
use Rattle.fleet_execution.specs.declared.motion.Move.{Move}
use Rattle.fleet_execution.specs.declared.standing.Standing.{Standing}
use Rattle.fleet_execution.specs.Course.{Course, course_at, with_step}
use Rattle.fleet_execution.specs.Desk.{HasSameBounds, steps_left}
use Rattle.fleet_execution.specs.Executes.{Executes, AreReturned, IsStep}
use Rattle.fleet_execution.specs.Stepped.{HasRoom}
use Rattle.fleet_execution.specs.Given.{Gives, IsReported, IsStanding, IsBehind}
use Rattle.fleet_execution.specs.Checked.{IsPlacement}
use Rattle.fleet_execution.specs.Kept.{Kept, desk}
use Rattle.fleet_c.specs.OwnsExecution.{HeldValue}
use Rattle.fleet_c.specs.declared.codes.TheConstants.{DONE, NO_MEMORY, NOT_OPEN, NO_ROBOT, BAD_CLEARANCE, BAD_WINDOW, NO_PLACEMENT, NO_STEP, WINDOW_FULL, NO_MOVE, NOT_UNDER_WAY}
use Rattle.fleet_c.specs.declared.executions.TheConstants.{CLEARANCE_ARRIVED, CLEARANCE_STARTED}
use Rattle.fleet_c.specs.declared.execution_fault.ExecutionFault.{ExecutionFault}
use Rattle.fleet_c.specs.declared.execution_fault.ExecutionFault.TheVariants as fault
use Rattle.fleet_c.specs.declared.motion.Motion.{Motion}
use Rattle.fleet_c.specs.declared.whereabouts.Whereabouts.{Whereabouts}
use Rattle.fleet_c.specs.declared.progress.Progress.{Progress}

-- ---- handles

-- a closed handle is refused and stays closed; an open one's execution goes on so
abbrev pub OnExecution : Option HeldValue → Option HeldValue → ℕ → (Kept → Kept → Type 0) → Type 0
OnExecution None new code Goes = (code ≡ NOT_OPEN) × (new ≡ None)
OnExecution (Some e) new code Goes = IsSomeAnd new (λ n. Goes e n)

-- a closed handle is refused and stays closed; this is said of the execution of an open one, which stays as it is
abbrev pub OfExecution : Option HeldValue → Option HeldValue → ℕ → (Kept → Type 0) → Type 0
OfExecution None new code Says = (code ≡ NOT_OPEN) × (new ≡ None)
OfExecution (Some e) new code Says = (new ≡ Some e) × Says e

-- ---- openings

-- the clearance with a number
abbrev pub clearance_in : ℕ → Option Clearance
clearance_in number = if number == CLEARANCE_ARRIVED then Some Arrived else if number == CLEARANCE_STARTED then Some Started else None

-- robots stand on this placement, and nothing is planned
pub record IsOpened (cells : ℕ) (placement : List ℕ) (clearance ahead : ℕ) (e : Kept) : Type 0 where
  pub rule : Clearance
  pub named : clearance_in clearance ≡ Some rule
  pub window : 0 < ahead
  pub placed : IsPlacement cells placement
  pub executes : Executes (desk e) (course_at rule placement)
  pub cells_are : (desk e).cells ≡ cells
  pub ahead_is : (desk e).ahead ≡ ahead

-- why no execution is opened: the first of these that is so, or memory ran out
abbrev pub IsWhy : ℕ → List ℕ → ℕ → ℕ → ExecutionFault → Type 0
IsWhy cells placement clearance ahead fault.Clearance = clearance_in clearance ≡ None
IsWhy cells placement clearance ahead fault.Window = (is_some (clearance_in clearance) ≡ true) × (ahead ≡ 0)
IsWhy cells placement clearance ahead fault.Placement = (is_some (clearance_in clearance) ≡ true) × (0 < ahead) × (IsPlacement cells placement → ⊥)
IsWhy cells placement clearance ahead fault.NoMemory = Unit {0}

-- the code of why no execution is opened
abbrev pub opening_code : ExecutionFault → ℕ
opening_code fault.Clearance = BAD_CLEARANCE
opening_code fault.Window = BAD_WINDOW
opening_code fault.Placement = NO_PLACEMENT
opening_code fault.NoMemory = NO_MEMORY

-- C is told why no execution is opened
pub record IsUnopened (cells : ℕ) (placement : List ℕ) (clearance ahead code : ℕ) : Type 0 where
  pub why : ExecutionFault
  pub is : IsWhy cells placement clearance ahead why
  pub told : code ≡ opening_code why

-- ---- steps, moves and reports

-- a move that C is told, in the product's words
abbrev pub move_of : Motion → Move
move_of m = record { robot = m.robot; from = m.from; to = m.to; tick = m.tick }

-- a further step was planned, or may not be planned
pub record HasPlanned (e : Kept) (to : List ℕ) (code : ℕ) (n : Kept) : Type 0 where
  pub full : (code ≡ WINDOW_FULL) ↔ (HasRoom (desk e) → ⊥)
  pub conflict : (code ≡ NO_STEP) ↔ (HasRoom (desk e) × (IsStep (desk e) to → ⊥))
  pub planned : (code ≡ DONE) ↔ (HasRoom (desk e) × IsStep (desk e) to)
  pub goes : code ≡ DONE → (o : Course) → Executes (desk e) o → Executes (desk n) (with_step o to)
  pub bounds : HasSameBounds (desk e) (desk n)
  pub stays : code ≢ DONE → n ≡ e

-- the next move that may begin begins, or none may
pub record HasBegun (e : Kept) (code : ℕ) (before after : Motion) (n : Kept) : Type 0 where
  pub some : code ≡ DONE → (o : Course) → Executes (desk e) o → Gives o (move_of after) (desk n)
  pub fewer : code ≡ DONE → steps_left (desk n) < steps_left (desk e)
  pub none : code ≢ DONE → (o : Course) → Executes (desk e) o
      → AreReturned o × ((r t : ℕ) → r < o.run.plan.robots → MayBegin o.run r t → ⊥) × Executes (desk n) o
  pub refused : code ≢ DONE → code ≡ NO_MOVE
  pub bounds : HasSameBounds (desk e) (desk n)
  pub stays : code ≢ DONE → after ≡ before

-- a robot that is under way has reached its cell; any other is refused
pub record HasReached (e : Kept) (robot code : ℕ) (before after : Motion) (n : Kept) : Type 0 where
  pub own : code ≡ DONE → after.robot ≡ robot
  pub reported : code ≡ DONE → (o : Course) → Executes (desk e) o → IsReported o (move_of after) (desk n)
  pub idle : code ≢ DONE → (o : Course) → Executes (desk e) o → robot < o.run.plan.robots → o.returned robot ≡ o.run.reached robot
  pub refused : code ≢ DONE → code ≡ NOT_UNDER_WAY
  pub bounds : HasSameBounds (desk e) (desk n)
  pub stays : code ≢ DONE → (n ≡ e) × (after ≡ before)

-- ---- views

-- where a robot is, in C's words: if it is not under way, it is bound for the cell on which it stands
pub record IsWhere (s : Standing) (w : Whereabouts) : Type 0 where
  pub cell : w.cell ≡ s.cell
  pub left : w.left ≡ s.left
  pub bound : MatchOption s.bound_for ((w.is_under_way ≡ false) × (w.bound_for ≡ s.cell)) (λ c. (w.is_under_way ≡ true) × (w.bound_for ≡ c))

-- where a robot is, or there is none with this number
pub record IsFound (e : Kept) (robot code : ℕ) (before after : Whereabouts) : Type 0 where
  pub found : code ≡ DONE → (s : Standing) × IsWhere s after × ((o : Course) → Executes (desk e) o → IsStanding o robot s)
  pub none : code ≢ DONE → (o : Course) → Executes (desk e) o → o.run.plan.robots ≤ robot
  pub refused : code ≢ DONE → code ≡ NO_ROBOT
  pub stays : code ≢ DONE → after ≡ before

-- how far an execution has come
pub record IsProgress (e : Kept) (p : Progress) : Type 0 where
  pub steps : p.steps ≡ (desk e).steps
  pub behind : (o : Course) → Executes (desk e) o → IsBehind o p.behind
  pub has_room : IsTrue p.has_room ↔ HasRoom (desk e)
