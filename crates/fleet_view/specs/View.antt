-- The result of a map's text and of traces on it.
use Rattle.std.specs.Prelude.{◌≡◌, ◌+◌, ℕ, List, length, Option, Some, None, Ok, Err}
use Rattle.std.specs.declared.alloc.Global.{Global}
use Rattle.fleet_grid.specs.Floor.{Floor, floor_of_map}
use Rattle.fleet_map.specs.Grammar.{Map, map_of}
use Rattle.fleet_trace.specs.Trace.{Trace}
use Rattle.fleet_trace.specs.Chapters.{TellChapters, IsOutOfTurn, IsUnread}
use Rattle.fleet_view.specs.declared.fault.ViewFault.{ViewFault}
use Rattle.fleet_view.specs.declared.fault.ViewFault.TheVariants as fault
use Rattle.fleet_view.specs.Cells.{first_off}
use Rattle.fleet_view.specs.declared.verdict.ChapterVerdict.{ChapterVerdict}
use Rattle.fleet_view.specs.Verdicts.{AreVerdicts}
use Rattle.fleet_view.specs.Page.{page_text}
use Rattle.fleet_view.specs.Picture.{picture_text}

-- why the texts tell no chapters that follow one another, unless memory ran out
abbrev pub AreNotInTurn : Floor → List (List ℕ) → ViewFault → Type 0
AreNotInTurn m texts (fault.Map f) = ⊥
AreNotInTurn m texts (fault.Trace f) = (number : ℕ) × IsUnread texts number f
AreNotInTurn m texts (fault.Chapter number) = IsOutOfTurn m texts number
AreNotInTurn m texts (fault.OffMap number) = ⊥
AreNotInTurn m texts fault.NoMemory = Unit {0}

-- the texts tell these traces, which follow one another and whose cells the map has
pub record AreOn (floor : Map) (texts : List (List ℕ)) (ts : List (Trace Global)) : Type 0 where
  pub in_turn : TellChapters (floor_of_map floor) texts ts
  pub on_map : first_off (length floor.cells) 0 ts ≡ None

-- the texts tell traces that follow one another, and the first that has a cell which the map does not have has this
-- number, from 1
pub record IsOffMap (floor : Map) (texts : List (List ℕ)) (number : ℕ) : Type 0 where
  pub traces : List (Trace Global)
  pub in_turn : TellChapters (floor_of_map floor) texts traces
  pub place : ℕ
  pub off : first_off (length floor.cells) 0 traces ≡ Some place
  pub named : number ≡ place + 1

-- why the texts tell no chapters on the map, unless memory ran out
abbrev pub AreNotOn : Map → List (List ℕ) → ViewFault → Type 0
AreNotOn floor texts (fault.Map f) = ⊥
AreNotOn floor texts (fault.Trace f) = (number : ℕ) × IsUnread texts number f
AreNotOn floor texts (fault.Chapter number) = IsOutOfTurn (floor_of_map floor) texts number
AreNotOn floor texts (fault.OffMap number) = IsOffMap floor texts number
AreNotOn floor texts fault.NoMemory = Unit {0}

-- the page of traces on a map, with the judge's verdict on each
pub record IsJudgedPage (floor : Map) (ts : List (Trace Global)) (text : List ℕ) : Type 0 where
  pub verdicts : List ChapterVerdict
  pub judged : AreVerdicts (floor_of_map floor) ts verdicts
  pub is : text ≡ page_text floor verdicts ts

-- the page of the map and the traces that these texts are
pub record IsPage (map : List ℕ) (texts : List (List ℕ)) (text : List ℕ) : Type 0 where
  pub floor : Map
  pub read : map_of map ≡ Ok floor
  pub traces : List (Trace Global)
  pub told : AreOn floor texts traces
  pub page : IsJudgedPage floor traces text

-- the picture of the map and the traces that these texts are
pub record IsPicture (tick : Option ℕ) (map : List ℕ) (texts : List (List ℕ)) (text : List ℕ) : Type 0 where
  pub floor : Map
  pub read : map_of map ≡ Ok floor
  pub traces : List (Trace Global)
  pub told : AreOn floor texts traces
  pub is : text ≡ picture_text floor traces tick

-- why nothing is shown on a map that is read, unless memory ran out
abbrev pub IsUnshownOn : List ℕ → List (List ℕ) → ViewFault → Type 0
IsUnshownOn map texts fault = (floor : Map) × (map_of map ≡ Ok floor) × AreNotOn floor texts fault

-- why nothing is shown, unless memory ran out: the map comes before the traces
abbrev pub IsUnshown : List ℕ → List (List ℕ) → ViewFault → Type 0
IsUnshown map texts (fault.Map f) = map_of map ≡ Err f
IsUnshown map texts (fault.Trace f) = IsUnshownOn map texts (fault.Trace f)
IsUnshown map texts (fault.Chapter number) = IsUnshownOn map texts (fault.Chapter number)
IsUnshown map texts (fault.OffMap number) = IsUnshownOn map texts (fault.OffMap number)
IsUnshown map texts fault.NoMemory = Unit {0}
