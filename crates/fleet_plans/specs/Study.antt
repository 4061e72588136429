-- What there is to say of a map and a plan's text, and where the plan has its robots.
use Rattle.std.specs.Prelude.{◌≡◌, ℕ, List, Option, Ok, Err}
use Rattle.fleet_map.specs.declared.fault.MapFault.{MapFault}
use Rattle.fleet_map.specs.Grammar.{Map, map_of}
use Rattle.fleet_map.specs.Text.{lines_of}
use Rattle.fleet_grid.specs.Floor.{floor_of}
use Rattle.fleet_plans.specs.declared.answer.PlanAnswer.{PlanAnswer}
use Rattle.fleet_plans.specs.declared.answer.PlanAnswer.TheVariants as answer
use Rattle.fleet_plans.specs.declared.form.TextForm.{TextForm}
use Rattle.fleet_plans.specs.declared.study.Study.{Study}
use Rattle.fleet_plans.specs.declared.text.TextFault.{TextFault}
use Rattle.fleet_plans.specs.Answer.{IsNamed, IsJudged}
use Rattle.fleet_plans.specs.Goals.{Asked, Nothing}
use Rattle.fleet_plans.specs.Form.{form_of}
use Rattle.fleet_plans.specs.Reading.{IsPlanBy, IsFaultBy, head_by}

-- the text is no plan in this form, or these are its placements, and this is said of them
pub data IsFormStudy (asked : Asked) (m : Map) (form : TextForm) (text : List ℕ) (a : PlanAnswer) (places : List (List ℕ)) : Type 0 where
  unread : (fault : TextFault) → IsFaultBy form m.width m.height text fault → IsNamed (lines_of text) fault a → IsFormStudy asked m form text a places
  read : (goals : Option (List ℕ)) → IsPlanBy form m.width m.height text goals places → IsJudged (floor_of m.height m.width m.cells) asked (head_by form text) goals places a
      → IsFormStudy asked m form text a places

-- the text says its form
abbrev pub IsTextStudy : Asked → Map → List ℕ → PlanAnswer → List (List ℕ) → Type 0
IsTextStudy asked m text a places = IsFormStudy asked m (form_of text) text a places

-- the map before both; the text is read in this form
pub data IsStudyBy (form : TextForm) (map text : List ℕ) (s : Study) : Type 0 where
  without_map : (fault : MapFault) → map_of map ≡ Err fault → s.answer ≡ answer.Map fault → IsStudyBy form map text s
  with_map : (m : Map) → map_of map ≡ Ok m → s.width ≡ m.width → IsFormStudy Nothing m form text s.answer s.places → IsStudyBy form map text s

-- in the form of the text
abbrev pub IsStudy : List ℕ → List ℕ → Study → Type 0
IsStudy map text s = IsStudyBy (form_of text) map text s
