-- What is wrong with a map, a script or a trace.
use Rattle.std.specs.Prelude.{◌≡◌, ℕ, List, Some, None, Ok, Err}
use Rattle.std.specs.declared.alloc.Global.{Global}
use Rattle.fleet_map.specs.Text.{lines_of}
use Rattle.fleet_map.specs.Grammar.{Map, map_of}
use Rattle.fleet_map.specs.declared.fault.MapFault.TheVariants.{Cell}
use Rattle.fleet_grid.specs.Floor.{floor_of_map}
use Rattle.fleet_history.specs.History.{History}
use Rattle.fleet_history.specs.Legal.{IsLegal}
use Rattle.fleet_script.specs.Script.{Plan, script_of}
use Rattle.fleet_trace.specs.declared.fault.TraceFault.TheVariants.{NotJson, Version}
use Rattle.fleet_trace.specs.Trace.{Trace}
use Rattle.fleet_trace.specs.Reads.{Tells, IsTraceFault}
use Rattle.fleet_trace.specs.Misformed.{IsFormFault}
use Rattle.fleet_trace.specs.Judged.{IsFirstIllegal}
use Rattle.fleet_explain.specs.declared.explanation.Explanation.{Explanation}
use Rattle.fleet_explain.specs.declared.explanation.Explanation.TheVariants as explanation
use Rattle.fleet_explain.specs.Lines.{fault_at, letter_in}
use Rattle.fleet_core.specs.Opening.{CanStart}
use Rattle.fleet_explain.specs.Starts.{IsStartFault}
use Rattle.fleet_explain.specs.Served.{first_unserved}
use Rattle.fleet_explain.specs.Entries.{kind_at}
use Rattle.fleet_explain.specs.Details.{IsDetail}

-- ---- a map

-- the text is no map, for this reason
abbrev pub IsNoMap : List ℕ → Explanation → Type 0
IsNoMap map (explanation.Map f) = map_of map ≡ Err f
IsNoMap map (explanation.Letter row column letter) = (map_of map ≡ Err (Cell row column)) × (letter ≡ letter_in (lines_of map) row column)
IsNoMap map _ = ⊥

-- what is wrong with the text of a map, or that all is in order
pub data IsMapExplained (map : List ℕ) (e : Explanation) : Type 0 where
  no_map : IsNoMap map e → IsMapExplained map e
  fine : (m : Map) → map_of map ≡ Ok m → e ≡ explanation.Fine → IsMapExplained map e

-- ---- a script on a map

-- whether a serve takes the lines of a script
abbrev pub IsServedAs : Plan → Explanation → Type 0
IsServedAs plan explanation.Fine = first_unserved plan.clients plan.events plan.lines ≡ None
IsServedAs plan (explanation.Unserved line clients) = (first_unserved plan.clients plan.events plan.lines ≡ Some line) × (clients ≡ plan.clients)
IsServedAs plan _ = ⊥

-- on the map, the fleet of a script
abbrev pub IsScriptOn : Map → Plan → Explanation → Type 0
IsScriptOn m plan (explanation.Start fault width) = IsStartFault (floor_of_map m) plan.starts plan.clients plan.limits fault × (width ≡ m.width)
IsScriptOn m plan e = CanStart (floor_of_map m) plan.starts plan.clients plan.limits × IsServedAs plan e

-- what is first wrong with a map and a script on it: the map comes first
pub data IsScriptExplained (map script : List ℕ) (e : Explanation) : Type 0 where
  no_floor : IsNoMap map e → IsScriptExplained map script e
  no_script : (m : Map) (line : ℕ) → map_of map ≡ Ok m → script_of script ≡ Err line → e ≡ explanation.Script line (fault_at (lines_of script) line) → IsScriptExplained map script e
  on_floor : (m : Map) (plan : Plan) → map_of map ≡ Ok m → script_of script ≡ Ok plan → IsScriptOn m plan e → IsScriptExplained map script e

-- ---- a trace on a map

-- the text tells no trace, for this reason; where its reader stopped is as the reader says
abbrev pub IsNoTrace : List ℕ → Explanation → Type 0
IsNoTrace trace (explanation.NotJson position) = IsTraceFault trace NotJson
IsNoTrace trace explanation.Version = IsTraceFault trace Version
IsNoTrace trace (explanation.Form part) = IsFormFault trace part
IsNoTrace trace _ = ⊥

-- the history is legal on the map, or this is the first entry that breaks a rule
abbrev pub IsJudgedAs : Map → History Global → Explanation → Type 0
IsJudgedAs m h explanation.Fine = IsLegal (floor_of_map m) h
IsJudgedAs m h (explanation.Illegal at rule kind detail) = IsFirstIllegal (floor_of_map m) h at rule × (kind ≡ kind_at h.entries at) × IsDetail (floor_of_map m) h at rule detail
IsJudgedAs m h _ = ⊥

-- what is first wrong with a map and a trace on it: the map comes first
pub data IsTraceExplained (map trace : List ℕ) (e : Explanation) : Type 0 where
  without_map : IsNoMap map e → IsTraceExplained map trace e
  no_trace : (m : Map) → map_of map ≡ Ok m → IsNoTrace trace e → IsTraceExplained map trace e
  on_map : (m : Map) (t : Trace Global) → map_of map ≡ Ok m → Tells trace t → IsJudgedAs m t.history e → IsTraceExplained map trace e
