-- What is wrong with the header lines that begin a conversation.
use Rattle.std.specs.Prelude.{◌≡◌, ℕ, ◌-◌, Bool, true, false, List, [], length, slice_index_or, Option, Some, None, Ok, nat_lt, if◌then◌else◌}
use Rattle.fleet_map.specs.Text.{lines_of}
use Rattle.fleet_map.specs.Grammar.{Map, map_of}
use Rattle.fleet_grid.specs.Floor.{floor_of_map}
use Rattle.fleet_script.specs.Script.{Draft}
use Rattle.fleet_core.specs.Opening.{CanStart}
use Rattle.fleet_talk.specs.Conversation.{clients_in, limits_in}
use Rattle.fleet_talk.specs.HeadFile.{IsFirstBad, SaysHead}
use Rattle.fleet_explain.specs.declared.explanation.Explanation.{Explanation}
use Rattle.fleet_explain.specs.declared.head.HeadExplanation.{HeadExplanation}
use Rattle.fleet_explain.specs.declared.head.HeadExplanation.TheVariants as explanation
use Rattle.fleet_explain.specs.declared.head.HeadLineFault.{HeadLineFault}
use Rattle.fleet_explain.specs.declared.head.HeadLineFault.TheVariants as fault
use Rattle.fleet_explain.specs.declared.line.LineFault.{LineFault}
use Rattle.fleet_explain.specs.declared.line.LineFault.TheVariants as line
use Rattle.fleet_explain.specs.Explained.{IsNoMap}
use Rattle.fleet_explain.specs.Keywords.{is_event}
use Rattle.fleet_explain.specs.Lines.{fault_at}
use Rattle.fleet_explain.specs.Starts.{IsStartFault}

-- an event line is none of a head, whatever its form
abbrev pub event_apart : LineFault → HeadLineFault
event_apart (line.Form keyword) = if is_event keyword then fault.Event else fault.Line (line.Form keyword)
event_apart line.NoRobots = fault.Line line.NoRobots
event_apart line.Unknown = fault.Line line.Unknown
event_apart line.Late = fault.Line line.Late
event_apart line.Twice = fault.Line line.Twice

-- what is wrong with a line of a head: that it is too long, or else its fault
abbrev pub head_fault : Bool → LineFault → HeadLineFault
head_fault is_long f = if is_long then fault.Long else event_apart f

-- the line of this number, from 1
abbrev pub head_fault_at : List (List ℕ) → ℕ → HeadLineFault
head_fault_at lines number = head_fault (nat_lt 8192 (length (slice_index_or lines (number - 1) []))) (fault_at lines number)

-- robots that start on these cells, with the clients and the limits of a conversation whose head says this
abbrev pub IsPlacedOn : Map → Draft → List ℕ → HeadExplanation → Type 0
IsPlacedOn m d starts explanation.Fine = CanStart (floor_of_map m) starts (clients_in d) (limits_in d)
IsPlacedOn m d starts (explanation.Start why width) = IsStartFault (floor_of_map m) starts (clients_in d) (limits_in d) why × (width ≡ m.width)
IsPlacedOn m d starts _ = ⊥

-- on the map, the fleet of a head that says this
abbrev pub IsStartedOn : Map → Draft → Option (List ℕ) → HeadExplanation → Type 0
IsStartedOn m d None e = e ≡ explanation.Unplaced
IsStartedOn m d (Some starts) e = IsPlacedOn m d starts e

-- on the map, the fleet of a head that says this, with the starts that it names if it does
abbrev pub IsHeadOn : Map → Draft → HeadExplanation → Type 0
IsHeadOn m d e = IsStartedOn m d d.starts e

-- what is first wrong with a map and the header lines for it: the map comes first
pub data IsHeadExplained (map head : List ℕ) (e : HeadExplanation) : Type 0 where
  no_map : (f : Explanation) → IsNoMap map f → e ≡ explanation.Map f → IsHeadExplained map head e
  no_head : (m : Map) (number : ℕ) → map_of map ≡ Ok m → IsFirstBad (lines_of head) number → e ≡ explanation.Line number (head_fault_at (lines_of head) number) → IsHeadExplained map head e
  on_map : (m : Map) (d : Draft) → map_of map ≡ Ok m → SaysHead (lines_of head) d → IsHeadOn m d e → IsHeadExplained map head e
