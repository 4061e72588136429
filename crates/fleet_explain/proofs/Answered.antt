-- What is said on a map that is read.
use Rattle.std.proofs.Common.{◌≡◌, ℕ, List, Result, Ok, Err, ap, subst}
use Rattle.std.specs.declared.alloc.Global.{Global}
use Rattle.fleet_grid.specs.Floor.{floor_of_map}
use Rattle.fleet_map.specs.Text.{lines_of}
use Rattle.fleet_map.specs.Grammar.{Map, map_of}
use Rattle.fleet_script.specs.Script.{Plan, script_of}
use Rattle.fleet_script.specs.Shown.{FailsAt}
use Rattle.fleet_script.specs.declared.script.ScriptFault.{ScriptFault}
use Rattle.fleet_script.specs.declared.script.ScriptFault.TheVariants as script_fault
use Rattle.fleet_trace.specs.Trace.{Trace}
use Rattle.fleet_trace.specs.Reads.{Tells}
use Rattle.fleet_explain.specs.declared.line.LineFault.{LineFault}
use Rattle.fleet_explain.specs.declared.explanation.Explanation.{Explanation}
use Rattle.fleet_explain.specs.declared.explanation.Explanation.TheVariants as explanation
use Rattle.fleet_explain.specs.Lines.{fault_at}
use Rattle.fleet_explain.specs.Explained as explained
use Rattle.fleet_explain.specs.Explained.{IsScriptExplained, IsScriptOn, IsServedAs, IsNoTrace, IsTraceExplained, IsJudgedAs}
use Rattle.fleet_core.specs.Opening.{CanStart}

pub trace_on : (map trace : List ℕ) (e : Explanation) (m : Map) (t : Trace Global) → map_of map ≡ Ok m → Tells trace t → IsJudgedAs m t.history e → IsTraceExplained map trace e
trace_on map trace e m t read tells is = explained.on_map m t read tells is

pub trace_none : (map trace : List ℕ) (m : Map) (e : Explanation) → map_of map ≡ Ok m → IsNoTrace trace e → IsTraceExplained map trace e
trace_none map trace m e read why = explained.no_trace m read why

pub script_on : (map script : List ℕ) (e : Explanation) (m : Map) (p : Plan) → map_of map ≡ Ok m → script_of script ≡ Ok p → IsScriptOn m p e → IsScriptExplained map script e
script_on map script e m p read plan is = explained.on_floor m p read plan is

script_fails : (fault : ScriptFault) (line : ℕ) (read : Result Plan ℕ) → fault ≡ script_fault.Line line → FailsAt fault read → read ≡ Err line
script_fails fault line read is fails = let P : ScriptFault → Type 0 = λ f. FailsAt {Y = Plan} f read in subst P is fails

pub script_none : (map script : List ℕ) (m : Map) (line : ℕ) (fault : LineFault) (refused : ScriptFault) → map_of map ≡ Ok m → refused ≡ script_fault.Line line → FailsAt refused (script_of script) → fault ≡ fault_at (lines_of script) line → IsScriptExplained map script (explanation.Script line fault)
script_none map script m line fault refused read named why is = explained.no_script m line read (script_fails refused line (script_of script) named why) (ap (λ (f : LineFault). explanation.Script line f) is)

-- a script whose fleet can begin
pub served_on : (m : Map) (p : Plan) (e : Explanation) → CanStart (floor_of_map m) p.starts p.clients p.limits → IsServedAs p e → IsScriptOn m p e
served_on m p explanation.Fine opens served = (opens, served)
served_on m p (explanation.Unserved n clients) opens served = (opens, served)
served_on m p (explanation.Map f) opens served = absurd served
served_on m p (explanation.Letter r column l) opens served = absurd served
served_on m p (explanation.Script n f) opens served = absurd served
served_on m p (explanation.Start f width) opens served = absurd served
served_on m p (explanation.NotJson position) opens served = absurd served
served_on m p explanation.Version opens served = absurd served
served_on m p (explanation.Form part) opens served = absurd served
served_on m p (explanation.Illegal at rule kind detail) opens served = absurd served
