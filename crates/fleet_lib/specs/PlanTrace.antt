-- What is said of a plan that is to be a trace.
use Rattle.std.specs.Prelude.{◌≡◌, ◌⊎◌, ℕ, Bool, true, false, List, [], ◌++◌, Option, Some, None, codes, decimal, string_bytes}
use Rattle.std.specs.declared.string.String.{String}
use Rattle.std.specs.declared.alloc.Global.{Global}
use Rattle.fleet_plans.specs.declared.answer.PlanAnswer.{PlanAnswer}
use Rattle.fleet_plans.specs.declared.answer.PlanAnswer.TheVariants as answer
use Rattle.fleet_plans.specs.Form.{is_plan}
use Rattle.fleet_convert.specs.declared.tracing.TracingFault.{TracingFault}
use Rattle.fleet_convert.specs.declared.tracing.TracingFault.TheVariants as fault
use Rattle.fleet_convert.specs.PlanTrace.{IsTraced, IsUntraced}
use Rattle.fleet_plans.specs.Answer.{is_invalid}
use Rattle.fleet_convert.specs.Shown.{IsInvalidShown}
use Rattle.fleet_lib.specs.declared.plan_trace.Traced.{Traced}
use Rattle.fleet_lib.specs.declared.plan_trace.Traced.TheVariants as told
use Rattle.fleet_lib.specs.Said.{Outcome, said_of}
use Rattle.fleet_lib.specs.Check.{good, refused, outcome_of, invalid_text}

-- as `check` says it; that a plan is not valid is said on the error writer
abbrev pub plan_refused : PlanAnswer → Outcome
plan_refused (answer.Invalid f) = refused (codes "fleet: " ++ invalid_text f) 6
plan_refused a = outcome_of a

-- why a plan becomes no trace, with the status
abbrev pub untraced : TracingFault → Outcome
untraced (fault.NoPlan a) = plan_refused a
untraced fault.TooManyRobots = refused (codes "fleet: 512 robots at most\n") 6
untraced (fault.Illegal at rule) = refused (codes "fleet: illegal " ++ (decimal at ++ (codes " " ++ (decimal rule ++ codes "\n")))) 6
untraced fault.NoMemory = refused (codes "fleet: memory\n") 7

-- what is said to a map and to a plan that is to be a trace
pub data IsTraceOutcome (map plan : List ℕ) (o : Outcome) : Type 0 where
  made : (text : List ℕ) → IsTraced map plan text → o ≡ good text 0 → IsTraceOutcome map plan o
  not_made : (f : TracingFault) → IsUntraced map plan f → o ≡ untraced f → IsTraceOutcome map plan o

-- the trace of a plan, or why there is none
abbrev pub IsTracedBy : List ℕ → List ℕ → Traced → Type 0
IsTracedBy map plan (told.Trace text) = IsTraced map plan text.items
IsTracedBy map plan (told.Refused said) = (f : TracingFault) × IsUntraced map plan f × (said_of said ≡ untraced f)

-- by whether the text is a plan: its trace, or else the text itself
abbrev pub IsTracedIf : Bool → List ℕ → List ℕ → Traced → Type 0
IsTracedIf true map input t = IsTracedBy map input t
IsTracedIf false map input (told.Trace text) = text.items ≡ input
IsTracedIf false map input (told.Refused said) = ⊥

-- a plan becomes a trace, any other text stays as it is
abbrev pub IsTracedAs : List ℕ → List ℕ → Traced → Type 0
IsTracedAs map input t = IsTracedIf (is_plan input) map input t

-- a plan was read, and breaks a rule
abbrev pub is_conflict : TracingFault → Bool
is_conflict (fault.NoPlan a) = is_invalid a
is_conflict f = false

-- what is shown is the trace of a plan, legal or not; or this is why nothing is, and then a plan that breaks a rule has too many robots or cells off the map
abbrev pub IsShownBy : List ℕ → List ℕ → Traced → Type 0
IsShownBy map plan (told.Trace text) = IsTraced map plan text.items ⊎ ((shown : String Global) × IsInvalidShown map plan (Some shown) × (text.items ≡ string_bytes shown))
IsShownBy map plan (told.Refused said) = (f : TracingFault) × IsUntraced map plan f × (said_of said ≡ untraced f) × (is_conflict f ≡ true → IsInvalidShown map plan None)

-- by whether the text is a plan: its trace to be looked at, or else the text itself
abbrev pub IsShownIf : Bool → List ℕ → List ℕ → Traced → Type 0
IsShownIf true map input t = IsShownBy map input t
IsShownIf false map input (told.Trace text) = text.items ≡ input
IsShownIf false map input (told.Refused said) = ⊥

-- a plan becomes a trace to be looked at, any other text stays as it is
abbrev pub IsShownAs : List ℕ → List ℕ → Traced → Type 0
IsShownAs map input t = IsShownIf (is_plan input) map input t
