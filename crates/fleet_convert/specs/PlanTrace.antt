-- A plan as a trace: its robots stand on their first cells, and make a tick for each of its steps. They have no errands.
use Rattle.std.specs.Prelude.{◌≡◌, ◌<◌, ℕ, Bool, true, false, List, [], ◌∷◌, map, drop, None, Ok}
use Rattle.std.specs.declared.alloc.Global.{Global}
use Rattle.fleet_map.specs.Grammar.{Map, map_of}
use Rattle.fleet_grid.specs.Floor.{floor_of_map}
use Rattle.fleet_hooks.specs.declared.law.StampLaw.{StampLaw}
use Rattle.fleet_history.specs.declared.history.ClientState.{ClientState}
use Rattle.fleet_history.specs.declared.history.Entry.{Entry}
use Rattle.fleet_history.specs.declared.history.Entry.TheVariants.{Tick}
use Rattle.fleet_history.specs.declared.history.Opening.{Opening}
use Rattle.fleet_history.specs.declared.history.RobotState.{RobotState}
use Rattle.fleet_history.specs.Legal.{IsLegal}
use Rattle.fleet_trace.specs.Judged.{IsFirstIllegal}
use Rattle.fleet_trace.specs.Text.{trace_text}
use Rattle.fleet_trace.specs.Trace.{Trace}
use Rattle.fleet_plans.specs.declared.answer.PlanAnswer.{PlanAnswer}
use Rattle.fleet_plans.specs.declared.answer.PlanAnswer.TheVariants as answer
use Rattle.fleet_plans.specs.declared.report.PlanReport.{PlanReport}
use Rattle.fleet_plans.specs.Answer.{IsPlanAnswer}
use Rattle.fleet_plans.specs.Goals.{Nothing}
use Rattle.fleet_plans.specs.Study.{IsTextStudy}
use Rattle.fleet_plans.specs.Valid.{place_at}
use Rattle.fleet_convert.specs.declared.tracing.TracingFault.{TracingFault}
use Rattle.fleet_convert.specs.declared.tracing.TracingFault.TheVariants as fault

-- whether a plan is valid
abbrev pub is_valid : PlanAnswer → Bool
is_valid (answer.Valid report) = true
is_valid a = false

-- a robot that stands on a cell and has no errand
abbrev pub standing : ℕ → RobotState Global
standing cell = record { cell = cell; shut = false; wait = None; errands = []; arrival_law = record { low = 0; high = 0 }; farewell_law = record { low = 0; high = 0 } }

-- a client that has sent nothing
abbrev pub silent : ClientState
silent = record { taken = 0; accepted = 0; noticed = 0; closed = false }

-- robots that stand on these cells, and a client
abbrev pub stood : List ℕ → Opening Global
stood cells = record { tick = 0; queue = 16; life = 1000000; clients = silent ∷ []; robots = map standing cells }

-- a tick to these cells
abbrev pub tick_to : List ℕ → Entry Global
tick_to cells = Tick cells [] []

-- the trace of a plan
abbrev pub plan_trace : List (List ℕ) → Trace Global
plan_trace places = record { number = 0; history = record { opening = stood (place_at places 0); entries = map tick_to (drop 1 places) } }

-- on a map, the text is that of the trace of placements, which is legal
pub record IsTraceText (m : Map) (places : List (List ℕ)) (text : List ℕ) : Type 0 where
  pub legal : IsLegal (floor_of_map m) (plan_trace places).history
  pub is : text ≡ trace_text (plan_trace places)

-- why placements give no trace, unless memory ran out
abbrev pub IsNoTraceOn : Map → List (List ℕ) → TracingFault → Type 0
IsNoTraceOn m places (fault.NoPlan a) = ⊥
IsNoTraceOn m places fault.TooManyRobots = ⊥
IsNoTraceOn m places (fault.Illegal at rule) = IsFirstIllegal (floor_of_map m) (plan_trace places).history at rule
IsNoTraceOn m places fault.NoMemory = Unit {0}

-- the text is that of the trace of a plan of which it is said that it is valid
pub record IsTraced (bytes plan text : List ℕ) : Type 0 where
  pub floor : Map
  pub read : map_of bytes ≡ Ok floor
  pub said : PlanAnswer
  pub places : List (List ℕ)
  pub told : IsTextStudy Nothing floor plan said places
  pub valid : is_valid said ≡ true
  pub trace : IsTraceText floor places text

-- it is said of the plan that it is valid, and its trace is not legal
pub record IsUntraceable (bytes plan : List ℕ) (at rule : ℕ) : Type 0 where
  pub floor : Map
  pub read : map_of bytes ≡ Ok floor
  pub said : PlanAnswer
  pub places : List (List ℕ)
  pub told : IsTextStudy Nothing floor plan said places
  pub valid : is_valid said ≡ true
  pub illegal : IsFirstIllegal (floor_of_map floor) (plan_trace places).history at rule

-- this is said of the plan, and not that it is valid
pub record IsRefused (bytes plan : List ℕ) (a : PlanAnswer) : Type 0 where
  pub told : IsPlanAnswer bytes plan a
  pub not_valid : is_valid a ≡ false

-- it is said of the plan that it is valid, and it has more robots than a trace
pub record HasTooMany (bytes plan : List ℕ) : Type 0 where
  pub report : PlanReport
  pub told : IsPlanAnswer bytes plan (answer.Valid report)
  pub many : 512 < report.robots

-- why there is no trace, unless memory ran out: there is no valid plan, it has too many robots, or its trace is not legal
abbrev pub IsUntraced : List ℕ → List ℕ → TracingFault → Type 0
IsUntraced bytes plan (fault.NoPlan a) = IsRefused bytes plan a
IsUntraced bytes plan fault.TooManyRobots = HasTooMany bytes plan
IsUntraced bytes plan (fault.Illegal at rule) = IsUntraceable bytes plan at rule
IsUntraced bytes plan fault.NoMemory = Unit {0}
