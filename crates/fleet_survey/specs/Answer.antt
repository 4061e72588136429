-- What is told of the text of a map.
use Rattle.std.specs.Prelude.{◌≡◌, ℕ, List, Option, None, Some, Ok, Err, length}
use Rattle.fleet_map.specs.Grammar.{Map}
use Rattle.fleet_map.specs.Shape.{IsMapText}
use Rattle.fleet_map.specs.FirstFault.{IsFirstFault}
use Rattle.fleet_map.specs.Text.{lines_of}
use Rattle.fleet_grid.specs.Floor.{Floor, floor_of}
use Rattle.fleet_survey.specs.Cells.{listed_cells}
use Rattle.fleet_survey.specs.Json.{survey_json}
use Rattle.fleet_survey.specs.MapText.{map_text}
use Rattle.fleet_survey.specs.Mended.{IsMending}
use Rattle.fleet_survey.specs.Picture.{picture_text}
use Rattle.fleet_survey.specs.Pruned.{IsPruned}
use Rattle.fleet_survey.specs.Survey.{IsGreatestFor, IsSurvey}
use Rattle.fleet_survey.specs.Texts.{mending_lines, survey_lines}
use Rattle.fleet_survey.specs.declared.answer.SurveyForm.{SurveyForm}
use Rattle.fleet_survey.specs.declared.answer.SurveyForm.TheVariants as form
use Rattle.fleet_survey.specs.declared.fault.SurveyFault.{SurveyFault}
use Rattle.fleet_survey.specs.declared.fault.SurveyFault.TheVariants as survey_fault
use Rattle.fleet_survey.specs.declared.listed.Listed.{Listed}
use Rattle.fleet_survey.specs.declared.mend.Mending.{Mending}
use Rattle.fleet_survey.specs.declared.survey.Survey.{Survey}

-- the text is a map, and this is its floor
pub record Reads (bytes : List ℕ) (m : Floor) : Type 0 where
  pub read : Map
  pub text : IsMapText bytes read
  pub floor : m ≡ floor_of read.height read.width read.cells

-- ---- a list of cells

-- how many cells a text lists, and for how many robots all are roomy
pub record IsListed (m : Floor) (text : List ℕ) (l : Listed) : Type 0 where
  pub cells : List ℕ
  pub read : listed_cells m text ≡ Ok cells
  pub count : l.count ≡ length cells
  pub greatest : IsGreatestFor m cells l.roomy_for

-- how many cells the list has, and for how many robots all are roomy, if there is a list
abbrev pub AreListed : Floor → Option (List ℕ) → Option Listed → Type 0
AreListed m None None = Unit {0}
AreListed m None (Some l) = ⊥
AreListed m (Some text) None = ⊥
AreListed m (Some text) (Some l) = IsListed m text l

-- this is the first line of the list with a word that is no floor cell
abbrev pub IsBadList : Floor → Option (List ℕ) → ℕ → Type 0
IsBadList m None number = ⊥
IsBadList m (Some text) number = listed_cells m text ≡ Err number

-- ---- what is told

-- the figures as such a text
pub record AreFigures (text_of : Survey → Option Listed → List ℕ) (m : Floor) (n : ℕ) (cells : Option (List ℕ)) (text : List ℕ) : Type 0 where
  pub survey : Survey
  pub is : IsSurvey m n survey
  pub listed : Option Listed
  pub are : AreListed m cells listed
  pub told : text ≡ text_of survey listed

-- the text is that of the map, pruned for n robots
pub record IsPrunedText (m : Floor) (n : ℕ) (text : List ℕ) : Type 0 where
  pub map : Floor
  pub is : IsPruned n m map
  pub told : text ≡ map_text map

-- the text is a picture of the map's survey for n robots
pub record IsPictured (m : Floor) (n : ℕ) (text : List ℕ) : Type 0 where
  pub survey : Survey
  pub is : IsSurvey m n survey
  pub told : text ≡ picture_text survey

-- the text has walls of the map to be opened, and how many cells are not roomy for n robots then
pub record IsMendedText (m : Floor) (n : ℕ) (text : List ℕ) : Type 0 where
  pub mending : Mending
  pub is : IsMending m n mending
  pub told : text ≡ mending_lines mending

-- what is told of a map for n robots, and of a list of cells
abbrev pub IsToldOn : SurveyForm → Floor → ℕ → Option (List ℕ) → List ℕ → Type 0
IsToldOn form.Lines m n cells text = AreFigures survey_lines m n cells text
IsToldOn form.Json m n cells text = AreFigures survey_json m n cells text
IsToldOn form.Pruned m n cells text = IsPrunedText m n text
IsToldOn form.Picture m n cells text = IsPictured m n text
IsToldOn form.Mended m n cells text = IsMendedText m n text

-- the text is told in this form of a map's text for n robots, and of a list of cells if there is one
pub record IsTold (form : SurveyForm) (n : ℕ) (map : List ℕ) (cells : Option (List ℕ)) (text : List ℕ) : Type 0 where
  pub floor : Floor
  pub reads : Reads map floor
  pub told : IsToldOn form floor n cells text

-- ---- faults

-- why nothing is told of a list of cells, out of memory apart
abbrev pub IsListFault : Floor → Option (List ℕ) → SurveyFault → Type 0
IsListFault m cells survey_fault.NoMemory = Unit {0}
IsListFault m cells (survey_fault.Cells number) = IsBadList m cells number
IsListFault m cells (survey_fault.Map fault) = ⊥

-- only figures are told of a list
abbrev pub IsFaultOn : SurveyForm → Floor → Option (List ℕ) → SurveyFault → Type 0
IsFaultOn form.Lines m cells why = IsListFault m cells why
IsFaultOn form.Json m cells why = IsListFault m cells why
IsFaultOn form.Pruned m cells why = why ≡ survey_fault.NoMemory
IsFaultOn form.Picture m cells why = why ≡ survey_fault.NoMemory
IsFaultOn form.Mended m cells why = why ≡ survey_fault.NoMemory

-- why a text is no map, out of memory apart
abbrev pub IsMapFault : List ℕ → SurveyFault → Type 0
IsMapFault map survey_fault.NoMemory = Unit {0}
IsMapFault map (survey_fault.Cells number) = ⊥
IsMapFault map (survey_fault.Map fault) = IsFirstFault (lines_of map) fault

-- why nothing is told of the text of a map, out of memory apart: its first fault, or that of the list of cells
abbrev pub IsFault : SurveyForm → List ℕ → Option (List ℕ) → SurveyFault → Type 0
IsFault form map cells survey_fault.NoMemory = Unit {0}
IsFault form map cells (survey_fault.Map fault) = IsFirstFault (lines_of map) fault
IsFault form map cells (survey_fault.Cells number) = (m : Floor) × Reads map m × IsFaultOn form m cells (survey_fault.Cells number)
