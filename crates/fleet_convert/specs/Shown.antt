-- A plan that is not valid, as a trace to be looked at.
use Rattle.std.specs.Prelude.{◌≡◌, ◌<◌, ℕ, Bool, true, false, not, ◌&&◌, nat_lt, List, length, Option, Some, None, Ok, Err, string_bytes}
use Rattle.std.specs.List.{list_all}
use Rattle.std.specs.declared.string.String.{String}
use Rattle.std.specs.declared.alloc.Global.{Global}
use Rattle.fleet_map.specs.declared.fault.MapFault.{MapFault}
use Rattle.fleet_map.specs.Grammar.{Map, map_of}
use Rattle.fleet_trace.specs.Text.{trace_text}
use Rattle.fleet_plans.specs.declared.answer.PlanAnswer.{PlanAnswer}
use Rattle.fleet_plans.specs.Answer.{is_invalid}
use Rattle.fleet_plans.specs.Goals.{Nothing}
use Rattle.fleet_plans.specs.Study.{IsTextStudy}
use Rattle.fleet_plans.specs.Valid.{place_at}
use Rattle.fleet_convert.specs.PlanTrace.{plan_trace}

-- a map of this many cells has all of these
abbrev pub are_cells : ℕ → List ℕ → Bool
are_cells count cells = list_all (λ cell. nat_lt cell count) cells

-- a map of this many cells has those of each placement
abbrev pub are_on : ℕ → List (List ℕ) → Bool
are_on count places = list_all (are_cells count) places

-- the robots are 512 at most, and on the map
abbrev pub fits : ℕ → List (List ℕ) → Bool
fits count places = not (nat_lt 512 (length (place_at places 0))) && are_on count places

-- the text is that of the placements' trace if the test passes, or else there is none
abbrev pub IsShownIf : Bool → List (List ℕ) → Option (String Global) → Type 0
IsShownIf true places (Some text) = string_bytes text ≡ trace_text (plan_trace places)
IsShownIf true places None = ⊥
IsShownIf false places shown = shown ≡ None

-- the text of the trace of its placements, exactly if a plan is not valid and fits the map
abbrev pub IsShownAs : ℕ → PlanAnswer → List (List ℕ) → Option (String Global) → Type 0
IsShownAs count said places shown = IsShownIf (is_invalid said && fits count places) places shown

-- nothing without a map; else by what is said of the plan
pub data IsInvalidShown (bytes plan : List ℕ) (shown : Option (String Global)) : Type 0 where
  no_map : (fault : MapFault) → map_of bytes ≡ Err fault → shown ≡ None → IsInvalidShown bytes plan shown
  on_map : (m : Map) → map_of bytes ≡ Ok m → (said : PlanAnswer) (places : List (List ℕ)) → IsTextStudy Nothing m plan said places → IsShownAs (length m.cells) said places shown
      → IsInvalidShown bytes plan shown
