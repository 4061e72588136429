-- The page of two runs: each is a plan, a log or a trace.
use Rattle.std.specs.Prelude.{⊤, ◌≡◌, ◌≢◌, ◌⊎◌, ℕ, Bool, true, false, List, ◌++◌, length, Ok, Err, codes}
use Rattle.std.specs.declared.alloc.Global.{Global}
use Rattle.fleet_map.specs.Grammar.{Map, map_of}
use Rattle.fleet_grid.specs.Floor.{floor_of_map}
use Rattle.fleet_trace.specs.Trace.{Trace}
use Rattle.fleet_trace.specs.Text.{trace_text}
use Rattle.fleet_trace.specs.Reads.{Tells, IsTraceFault}
use Rattle.fleet_trace.specs.declared.fault.TraceFault.TheVariants as trace_fault
use Rattle.fleet_plans.specs.declared.answer.PlanAnswer.{PlanAnswer}
use Rattle.fleet_plans.specs.Form.{is_plan}
use Rattle.fleet_plans.specs.Goals.{Nothing}
use Rattle.fleet_plans.specs.Study.{IsTextStudy}
use Rattle.fleet_view.specs.declared.pair.RunFault.{RunFault}
use Rattle.fleet_view.specs.declared.pair.RunFault.TheVariants as fault
use Rattle.fleet_view.specs.declared.verdict.ChapterVerdict.{ChapterVerdict}
use Rattle.fleet_view.specs.Cells.{is_trace_on}
use Rattle.fleet_view.specs.Logs.{is_log, log_run}
use Rattle.fleet_view.specs.Runs.{is_judged, IsPlanRun, runs_page}
use Rattle.fleet_view.specs.Verdicts.{IsVerdictOn, verdict_text}

-- ---- a plan

-- a plan is read, valid or not, and this is its text
pub record IsShownPlan (bytes : List ℕ) (m : Map) (text run : List ℕ) : Type 0 where
  pub said : PlanAnswer
  pub places : List (List ℕ)
  pub told : IsTextStudy Nothing m text said places
  pub judged : is_judged said ≡ true
  pub made : IsPlanRun bytes text m.width said places run

-- why a plan is not shown, unless memory ran out
abbrev pub IsNoPlan : Map → List ℕ → RunFault → Type 0
IsNoPlan m text (fault.Map f) = ⊥
IsNoPlan m text (fault.Plan said) = (places : List (List ℕ)) × IsTextStudy Nothing m text said places × (is_judged said ≡ false)
IsNoPlan m text (fault.Trace f) = ⊥
IsNoPlan m text (fault.OffMap number) = ⊥
IsNoPlan m text fault.NoMemory = ⊤

-- ---- a trace

-- the judge's verdict, and the trace
abbrev pub trace_run : {A : Type 0} → ChapterVerdict → Trace A → List ℕ
trace_run v t = codes "trace " ++ verdict_text v ++ trace_text t ++ codes "\n"

-- the map has the cells of the trace, and this is its text
pub record IsJudgedRun (m : Map) (t : Trace Global) (run : List ℕ) : Type 0 where
  pub on_map : is_trace_on (length m.cells) t ≡ true
  pub verdict : ChapterVerdict
  pub judged : IsVerdictOn (floor_of_map m) t.history verdict
  pub is : run ≡ trace_run verdict t

-- why a trace is not shown, unless memory ran out; it has this number
abbrev pub IsNoTraceOn : Map → ℕ → Trace Global → RunFault → Type 0
IsNoTraceOn m number t (fault.Map f) = ⊥
IsNoTraceOn m number t (fault.Plan said) = ⊥
IsNoTraceOn m number t (fault.Trace f) = ⊥
IsNoTraceOn m number t (fault.OffMap named) = (named ≡ number) × (is_trace_on (length m.cells) t ≡ false)
IsNoTraceOn m number t fault.NoMemory = ⊤

abbrev pub IsShownTrace : Map → List ℕ → List ℕ → Type 0
IsShownTrace m text run = (t : Trace Global) × Tells text t × IsJudgedRun m t run

abbrev pub IsNoTrace : Map → ℕ → List ℕ → RunFault → Type 0
IsNoTrace m number text (fault.Map f) = ⊥
IsNoTrace m number text (fault.Plan said) = ⊥
IsNoTrace m number text (fault.Trace f) = IsTraceFault text f × (f ≢ trace_fault.NoMemory)
IsNoTrace m number text (fault.OffMap named) = (t : Trace Global) × Tells text t × IsNoTraceOn m number t (fault.OffMap named)
IsNoTrace m number text fault.NoMemory = ⊤

-- ---- one of them

abbrev pub IsOtherIf : Bool → List ℕ → Map → List ℕ → List ℕ → Type 0
IsOtherIf true bytes m text run = IsShownPlan bytes m text run
IsOtherIf false bytes m text run = IsShownTrace m text run

-- a log is shown as it is
abbrev pub IsRunIf : Bool → List ℕ → Map → List ℕ → List ℕ → Type 0
IsRunIf true bytes m text run = run ≡ log_run text
IsRunIf false bytes m text run = IsOtherIf (is_plan text) bytes m text run

abbrev pub IsNoOtherIf : Bool → Map → ℕ → List ℕ → RunFault → Type 0
IsNoOtherIf true m number text f = IsNoPlan m text f
IsNoOtherIf false m number text f = IsNoTrace m number text f

-- a log is refused where memory ran out alone
abbrev pub IsNoRunIf : Bool → Map → ℕ → List ℕ → RunFault → Type 0
IsNoRunIf true m number text f = f ≡ fault.NoMemory
IsNoRunIf false m number text f = IsNoOtherIf (is_plan text) m number text f

-- the text of a log, of a plan or of a trace: a plan that begins with a digit has bytes that no log has
abbrev pub IsRun : List ℕ → Map → List ℕ → List ℕ → Type 0
IsRun bytes m text run = IsRunIf (is_log text) bytes m text run

abbrev pub IsNoRun : Map → ℕ → List ℕ → RunFault → Type 0
IsNoRun m number text f = IsNoRunIf (is_log text) m number text f

-- the page has a run with this text, and another one
pub record IsSecondOn (bytes : List ℕ) (m : Map) (first other page : List ℕ) : Type 0 where
  pub second : List ℕ
  pub is_second : IsRun bytes m other second
  pub is : page ≡ runs_page m (first ++ second)

-- why the other one is not shown, unless memory ran out
abbrev pub IsSecondWrong : Map → List ℕ → RunFault → Type 0
IsSecondWrong m other (fault.Map f) = IsNoRun m 2 other (fault.Map f)
IsSecondWrong m other (fault.Plan said) = IsNoRun m 2 other (fault.Plan said)
IsSecondWrong m other (fault.Trace f) = IsNoRun m 2 other (fault.Trace f)
IsSecondWrong m other (fault.OffMap number) = IsNoRun m 2 other (fault.OffMap number)
IsSecondWrong m other fault.NoMemory = ⊤

-- the page has both runs
pub record IsPairOn (bytes : List ℕ) (m : Map) (one other page : List ℕ) : Type 0 where
  pub first : List ℕ
  pub second : List ℕ
  pub is_first : IsRun bytes m one first
  pub is_second : IsRun bytes m other second
  pub is : page ≡ runs_page m (first ++ second)

-- the first that is not shown, and why
abbrev pub IsFirstWrong : List ℕ → Map → List ℕ → List ℕ → RunFault → Type 0
IsFirstWrong bytes m one other f = IsNoRun m 1 one f ⊎ ((first : List ℕ) × IsRun bytes m one first × IsNoRun m 2 other f)

-- the same, unless memory ran out
abbrev pub IsUnpairedOn : List ℕ → Map → List ℕ → List ℕ → RunFault → Type 0
IsUnpairedOn bytes m one other (fault.Map f) = IsFirstWrong bytes m one other (fault.Map f)
IsUnpairedOn bytes m one other (fault.Plan said) = IsFirstWrong bytes m one other (fault.Plan said)
IsUnpairedOn bytes m one other (fault.Trace f) = IsFirstWrong bytes m one other (fault.Trace f)
IsUnpairedOn bytes m one other (fault.OffMap number) = IsFirstWrong bytes m one other (fault.OffMap number)
IsUnpairedOn bytes m one other fault.NoMemory = ⊤

-- on the map of a text
pub record IsPairPage (bytes one other page : List ℕ) : Type 0 where
  pub floor : Map
  pub read : map_of bytes ≡ Ok floor
  pub on : IsPairOn bytes floor one other page

-- why there is no page, unless memory ran out: the map comes before the runs
abbrev pub IsUnpaired : List ℕ → List ℕ → List ℕ → RunFault → Type 0
IsUnpaired bytes one other (fault.Map f) = map_of bytes ≡ Err f
IsUnpaired bytes one other (fault.Plan said) = (m : Map) × (map_of bytes ≡ Ok m) × IsUnpairedOn bytes m one other (fault.Plan said)
IsUnpaired bytes one other (fault.Trace f) = (m : Map) × (map_of bytes ≡ Ok m) × IsUnpairedOn bytes m one other (fault.Trace f)
IsUnpaired bytes one other (fault.OffMap number) = (m : Map) × (map_of bytes ≡ Ok m) × IsUnpairedOn bytes m one other (fault.OffMap number)
IsUnpaired bytes one other fault.NoMemory = ⊤
