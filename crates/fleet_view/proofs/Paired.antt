-- Two runs on a page, piece by piece.
use Rattle.std.proofs.Common.{◌≡◌, ◌≢◌, ℕ, Bool, true, false, List, ◌++◌, length, Ok, Err, refl, sym, ap, subst, inl, inr, ◌∙◌}
use Rattle.std.specs.declared.alloc.Global.{Global}
use Rattle.fleet_map.specs.Grammar.{Map, map_of}
use Rattle.fleet_map.specs.declared.fault.MapFault.{MapFault}
use Rattle.fleet_grid.specs.Floor.{Floor, floor_of_map}
use Rattle.fleet_trace.specs.Trace.{Trace}
use Rattle.fleet_trace.specs.Reads.{Tells}
use Rattle.fleet_plans.specs.Form.{is_plan}
use Rattle.fleet_plans.specs.Study.{IsStudy}
use Rattle.fleet_plans.specs.declared.study.Study.{Study}
use Rattle.fleet_view.specs.declared.pair.RunFault.{RunFault}
use Rattle.fleet_view.specs.declared.pair.RunFault.TheVariants as fault
use Rattle.fleet_view.specs.declared.verdict.ChapterVerdict.{ChapterVerdict}
use Rattle.fleet_view.specs.Cells.{is_trace_on}
use Rattle.fleet_view.specs.Logs.{is_log, log_run}
use Rattle.fleet_view.specs.Runs.{is_judged, IsPlanRun, runs_page}
use Rattle.fleet_view.specs.Verdicts.{IsVerdictOn}
use Rattle.fleet_view.specs.Pair.{IsShownPlan, IsNoPlan, trace_run, IsJudgedRun, IsNoTraceOn, IsNoTrace, IsNoOtherIf, IsNoRunIf, IsNoRun, IsRun, IsSecondOn, IsSecondWrong, IsPairOn, IsUnpairedOn, IsPairPage, IsUnpaired}
use Rattle.fleet_view.proofs.Told.{studied}

-- ---- a plan

module _ (bytes text : List ℕ) (m : Map) (s : Study) (here : map_of bytes ≡ Ok m) (is : IsStudy bytes text s) where
  pub planned : (run : List ℕ) → is_judged s.answer ≡ true → IsPlanRun bytes text m.width s.answer s.places run → IsShownPlan bytes m text run
  planned run judged made = record { said = s.answer; places = s.places; told = studied bytes text m s here is; judged = judged; made = made }

  pub unplanned : is_judged s.answer ≡ false → IsNoPlan m text (fault.Plan s.answer)
  unplanned wrong = (s.places, studied bytes text m s here is, wrong)

-- ---- a trace

pub judged-run : (m : Map) (grid : Floor) (t : Trace Global) (count : ℕ) (v : ChapterVerdict) (run : List ℕ) → grid ≡ floor_of_map m → count ≡ length m.cells → is_trace_on count t ≡ true → IsVerdictOn grid t.history v → run ≡ trace_run v t
    → IsJudgedRun m t run
judged-run m grid t count v run grid-is count-is on judged is = record {
  on_map = subst (λ (k : ℕ). is_trace_on k t ≡ true) count-is on;
  verdict = v;
  judged = subst (λ (g : Floor). IsVerdictOn g t.history v) grid-is judged;
  is = is;
}

pub off-map : (m : Map) (number : ℕ) (t : Trace Global) (count : ℕ) → count ≡ length m.cells → is_trace_on count t ≡ false → IsNoTraceOn m number t (fault.OffMap number)
off-map m number t count count-is off = (refl, subst (λ (k : ℕ). is_trace_on k t ≡ false) count-is off)

pub untraced : (m : Map) (number : ℕ) (text : List ℕ) (t : Trace Global) (f : RunFault) → Tells text t → IsNoTraceOn m number t f → IsNoTrace m number text f
untraced m number text t (fault.Map f) tells why = absurd why
untraced m number text t (fault.Plan said) tells why = absurd why
untraced m number text t (fault.Trace f) tells why = absurd why
untraced m number text t (fault.OffMap named) tells why = (t, tells, why)
untraced m number text t fault.NoMemory tells why = tt

-- ---- two runs

pub second-made : (bytes : List ℕ) (m : Map) (first other second same page : List ℕ) → IsRun bytes m other second → same ≡ second → page ≡ runs_page m (first ++ same) → IsSecondOn bytes m first other page
second-made bytes m first other second same page run same-is is = record { second = second; is_second = run; is = subst (λ (r : List ℕ). page ≡ runs_page m (first ++ r)) same-is is }

pub joined : (m : Map) (first second runs same page : List ℕ) → runs ≡ first ++ second → same ≡ runs → page ≡ runs_page m same → page ≡ runs_page m (first ++ second)
joined m first second runs same page runs-is same-is is = is ∙ ap (λ (r : List ℕ). runs_page m r) (same-is ∙ runs-is)

pub memory-alone : (m : Map) (other : List ℕ) (f : RunFault) → f ≡ fault.NoMemory → IsSecondWrong m other f
memory-alone m other f is = subst (λ (g : RunFault). IsSecondWrong m other g) (sym is) tt

pub second-wrong : (m : Map) (other : List ℕ) (f : RunFault) → IsNoRun m 2 other f → IsSecondWrong m other f
second-wrong m other (fault.Map f) why = why
second-wrong m other (fault.Plan said) why = why
second-wrong m other (fault.Trace f) why = why
second-wrong m other (fault.OffMap number) why = why
second-wrong m other fault.NoMemory why = tt

module _ (bytes : List ℕ) (m : Map) (one other : List ℕ) where
  pub pair-made : (first page : List ℕ) → IsRun bytes m one first → IsSecondOn bytes m first other page → IsPairOn bytes m one other page
  pair-made first page run second = record { first = first; second = second.second; is_first = run; is_second = second.is_second; is = second.is }

  pub first-wrong : (f : RunFault) → IsNoRun m 1 one f → IsUnpairedOn bytes m one other f
  first-wrong (fault.Map f) why = inl why
  first-wrong (fault.Plan said) why = inl why
  first-wrong (fault.Trace f) why = inl why
  first-wrong (fault.OffMap number) why = inl why
  first-wrong fault.NoMemory why = tt

  pub other-wrong : (first : List ℕ) (f : RunFault) → IsRun bytes m one first → IsSecondWrong m other f → IsUnpairedOn bytes m one other f
  other-wrong first (fault.Map f) run why = inr (first, run, why)
  other-wrong first (fault.Plan said) run why = inr (first, run, why)
  other-wrong first (fault.Trace f) run why = inr (first, run, why)
  other-wrong first (fault.OffMap number) run why = inr (first, run, why)
  other-wrong first fault.NoMemory run why = tt

-- a run is not refused for its map
no-other : (b : Bool) (m : Map) (number : ℕ) (text : List ℕ) (f : MapFault) → IsNoOtherIf b m number text (fault.Map f) → ⊥
no-other true m number text f why = why
no-other false m number text f why = why

no-run : (b : Bool) (m : Map) (number : ℕ) (text : List ℕ) (f : MapFault) → IsNoRunIf b m number text (fault.Map f) → ⊥
no-run true m number text f why = absurd cc
no-run false m number text f why = no-other (is_plan text) m number text f why

-- why there is no page on a map that is read
pub unpaired : (bytes one other : List ℕ) (m : Map) (f : RunFault) → map_of bytes ≡ Ok m → IsUnpairedOn bytes m one other f → IsUnpaired bytes one other f
unpaired bytes one other m (fault.Map f) read (inl why) = absurd (no-run (is_log one) m 1 one f why)
unpaired bytes one other m (fault.Map f) read (inr why) = absurd (no-run (is_log other) m 2 other f why.2)
unpaired bytes one other m (fault.Plan said) read why = (m, read, why)
unpaired bytes one other m (fault.Trace f) read why = (m, read, why)
unpaired bytes one other m (fault.OffMap number) read why = (m, read, why)
unpaired bytes one other m fault.NoMemory read why = tt

pub paired : (bytes one other : List ℕ) (m : Map) (page : List ℕ) → map_of bytes ≡ Ok m → IsPairOn bytes m one other page → IsPairPage bytes one other page
paired bytes one other m page read on = record { floor = m; read = read; on = on }

-- ---- a log

pub log-made : (m : Map) (text made same page : List ℕ) → made ≡ log_run text → same ≡ made → page ≡ runs_page m same → page ≡ runs_page m (log_run text)
log-made m text made same page made-is same-is is = is ∙ ap (λ (r : List ℕ). runs_page m r) (same-is ∙ made-is)
