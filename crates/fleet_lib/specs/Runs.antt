-- What is said where plans with many robots, or two runs, are shown.
use Rattle.std.specs.Prelude.{◌≡◌, ℕ, Bool, true, false, ◌||◌, List, [], ◌∷◌, Option, Some, None}
use Rattle.std.specs.declared.alloc.Global.{Global}
use Rattle.std.specs.declared.vec.Vec.{Vec}
use Rattle.fleet_plans.specs.Form.{is_plan}
use Rattle.fleet_view.specs.declared.fault.ViewFault.{ViewFault}
use Rattle.fleet_view.specs.declared.fault.ViewFault.TheVariants as fault
use Rattle.fleet_view.specs.declared.pair.RunFault.{RunFault}
use Rattle.fleet_view.specs.declared.pair.RunFault.TheVariants as run_fault
use Rattle.fleet_view.specs.View.{IsPage, IsUnshown}
use Rattle.fleet_view.specs.Logs.{is_log, IsLogPage, IsNoLogPage}
use Rattle.fleet_view.specs.Runs.{IsManyShown}
use Rattle.fleet_view.specs.Pair.{IsPairPage, IsUnpaired}
use Rattle.fleet_lib.specs.declared.said.Said.{Said}
use Rattle.fleet_lib.specs.Check.{good}
use Rattle.fleet_lib.specs.PlanTrace.{plan_refused}
use Rattle.fleet_lib.specs.Said.{Outcome, said_of}
use Rattle.fleet_lib.specs.View.{faulty}

-- the page is said, if there is one
abbrev pub IsPageSaid : Option (Vec ℕ Global) → Option Said → Type 0
IsPageSaid (Some page) (Some said) = said_of said ≡ good page.items 0
IsPageSaid None None = Unit {0}
IsPageSaid (Some page) None = ⊥
IsPageSaid None (Some said) = ⊥

-- what is said of a plan with more than 512 robots, and of that alone
abbrev pub IsManySaid : List ℕ → List ℕ → Option Said → Type 0
IsManySaid map plan said = (page : Option (Vec ℕ Global)) × IsManyShown map plan page × IsPageSaid page said

-- as of a trace, and of a plan, alone
abbrev pub pair_refused : RunFault → Outcome
pair_refused (run_fault.Map f) = faulty (fault.Map f)
pair_refused (run_fault.Plan a) = plan_refused a
pair_refused (run_fault.Trace f) = faulty (fault.Trace f)
pair_refused (run_fault.OffMap number) = faulty (fault.OffMap number)
pair_refused run_fault.NoMemory = faulty fault.NoMemory

-- what is said to a log of an execution
pub data IsLogSaid (map log : List ℕ) (o : Outcome) : Type 0 where
  logged : (page : List ℕ) → IsLogPage map log page → o ≡ good page 0 → IsLogSaid map log o
  unlogged : (f : RunFault) → IsNoLogPage map f → o ≡ pair_refused f → IsLogSaid map log o

-- what is said to two runs
pub data IsPairSaid (map one other : List ℕ) (o : Outcome) : Type 0 where
  paired : (page : List ℕ) → IsPairPage map one other page → o ≡ good page 0 → IsPairSaid map one other o
  unpaired : (f : RunFault) → IsUnpaired map one other f → o ≡ pair_refused f → IsPairSaid map one other o

-- whether it is that one does not continue the other
abbrev pub is_chapter : ViewFault → Bool
is_chapter (fault.Chapter number) = true
is_chapter f = false

-- what is said to two traces: chapters that follow one another have one page, others are two runs
pub data IsTracesSaid (map one other : List ℕ) (o : Outcome) : Type 0 where
  in_turn : (page : List ℕ) → IsPage map (one ∷ other ∷ []) page → o ≡ good page 0 → IsTracesSaid map one other o
  unread : (f : ViewFault) → IsUnshown map (one ∷ other ∷ []) f → is_chapter f ≡ false → o ≡ faulty f → IsTracesSaid map one other o
  apart : (number : ℕ) → IsUnshown map (one ∷ other ∷ []) (fault.Chapter number) → IsPairSaid map one other o → IsTracesSaid map one other o

abbrev pub IsTwoIf : Bool → List ℕ → List ℕ → List ℕ → Outcome → Type 0
IsTwoIf true map one other o = IsPairSaid map one other o
IsTwoIf false map one other o = IsTracesSaid map one other o

-- a plan or a log
abbrev pub is_run : List ℕ → Bool
is_run text = is_plan text || is_log text

-- what is said to two texts: two runs, where one of them is no trace
abbrev pub IsTwoSaid : List ℕ → List ℕ → List ℕ → Outcome → Type 0
IsTwoSaid map one other o = IsTwoIf (is_run one || is_run other) map one other o
