-- The page of chapters that are judged.
use Rattle.std.proofs.Common.{◌≡◌, ℕ, List, map, Ok, subst}
use Rattle.std.specs.declared.alloc.Global.{Global}
use Rattle.fleet_grid.specs.Floor.{floor_of_map}
use Rattle.fleet_map.specs.Grammar.{Map, map_of}
use Rattle.fleet_trace.specs.Trace.{Trace}
use Rattle.fleet_view.specs.declared.verdict.ChapterVerdict.{ChapterVerdict}
use Rattle.fleet_view.specs.Verdicts.{AreVerdicts}
use Rattle.fleet_view.specs.Page.{page_text}
use Rattle.fleet_view.specs.declared.fault.ViewFault.{ViewFault}
use Rattle.fleet_view.specs.declared.fault.ViewFault.TheVariants as fault
use Rattle.fleet_view.specs.View.{AreNotOn, AreOn, IsJudgedPage, IsPage, IsUnshown}

pub judged-made : (m : Map) (ts : List (Trace Global)) (vs same : List ChapterVerdict) (text : List ℕ) → AreVerdicts (floor_of_map m) ts vs → same ≡ vs → text ≡ page_text m same ts → IsJudgedPage m ts text
judged-made m ts vs same text judged same-is is = record { verdicts = vs; judged = judged; is = subst (λ (l : List ChapterVerdict). text ≡ page_text m l ts) same-is is }

pub page-made : {C : Type 0} (m : Map) (bytes : List ℕ) (texts : List (List ℕ)) (g : C → Trace Global) (cs same : List C) (text : List ℕ) → map_of bytes ≡ Ok m → AreOn m texts (map g cs) → same ≡ cs → IsJudgedPage m (map g same) text
    → IsPage bytes texts text
page-made {C = C} m bytes texts g cs same text read told same-is judged =
    record { floor = m; read = read; traces = map g cs; told = told; page = subst (λ (l : List C). IsJudgedPage m (map g l) text) same-is judged }

-- why nothing is shown on a map that is read
pub unshown : (bytes : List ℕ) (m : Map) (texts : List (List ℕ)) (f : ViewFault) → map_of bytes ≡ Ok m → AreNotOn m texts f → IsUnshown bytes texts f
unshown bytes m texts (fault.Map f) read why = absurd why
unshown bytes m texts (fault.Trace f) read why = (m, read, why)
unshown bytes m texts (fault.Chapter number) read why = (m, read, why)
unshown bytes m texts (fault.OffMap number) read why = (m, read, why)
unshown bytes m texts fault.NoMemory read why = why
