-- What is said of header lines on a map that is read.
use Rattle.std.proofs.Common.{◌≡◌, ℕ, List, Ok, refl, ap, subst}
use Rattle.fleet_map.specs.Text.{lines_of}
use Rattle.fleet_map.specs.Grammar.{Map, map_of}
use Rattle.fleet_script.specs.Script.{Draft}
use Rattle.fleet_script.specs.declared.script.ScriptFault.{ScriptFault}
use Rattle.fleet_script.specs.declared.script.ScriptFault.TheVariants as script_fault
use Rattle.fleet_talk.specs.HeadFile.{IsFirstBad, IsHeadFault, SaysHead}
use Rattle.fleet_explain.specs.declared.head.HeadExplanation.{HeadExplanation}
use Rattle.fleet_explain.specs.declared.head.HeadExplanation.TheVariants as explanation
use Rattle.fleet_explain.specs.declared.head.HeadLineFault.{HeadLineFault}
use Rattle.fleet_explain.specs.Heads.{IsHeadExplained, IsHeadOn, head_fault_at}
use Rattle.fleet_explain.specs.Heads.IsHeadExplained.{no_head, on_map}

pub head_on : (map head : List ℕ) (e : HeadExplanation) (m : Map) (d : Draft) → map_of map ≡ Ok m → SaysHead (lines_of head) d → IsHeadOn m d e → IsHeadExplained map head e
head_on map head e m d read says is = on_map m d read says is

head_fails : (fault : ScriptFault) (line : ℕ) (lines : List (List ℕ)) → fault ≡ script_fault.Line line → IsHeadFault lines fault → IsFirstBad lines line
head_fails fault line lines is why = let P : ScriptFault → Type 0 = λ f. IsHeadFault lines f in subst P is why

pub head_none : (map head : List ℕ) (m : Map) (line : ℕ) (fault : HeadLineFault) (refused : ScriptFault) → map_of map ≡ Ok m → refused ≡ script_fault.Line line → IsHeadFault (lines_of head) refused
    → fault ≡ head_fault_at (lines_of head) line → IsHeadExplained map head (explanation.Line line fault)
head_none map head m line fault refused read named why is =
    no_head m line read (head_fails refused line (lines_of head) named why) (ap (λ (f : HeadLineFault). explanation.Line line f) is)
