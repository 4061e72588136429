-- What is told of the text of a map, and why nothing is.
use Rattle.std.proofs.Common.{ℕ, List, Option}
use Rattle.fleet_map.specs.declared.fault.MapFault.{MapFault}
use Rattle.fleet_grid.specs.Floor.{Floor}
use Rattle.fleet_survey.specs.Answer.{IsFault, IsFaultOn, Reads}
use Rattle.fleet_survey.specs.declared.answer.SurveyForm.{SurveyForm}
use Rattle.fleet_survey.specs.declared.answer.SurveyForm.TheVariants as form
use Rattle.fleet_survey.specs.declared.fault.SurveyFault.{SurveyFault}
use Rattle.fleet_survey.specs.declared.fault.SurveyFault.TheVariants as survey_fault

no_map_fault : (f : SurveyForm) (m : Floor) (cells : Option (List ℕ)) → (fault : MapFault) → IsFaultOn f m cells (survey_fault.Map fault) → ⊥
no_map_fault form.Lines m cells fault is = is
no_map_fault form.Json m cells fault is = is
no_map_fault form.Pruned m cells fault is = cc is
no_map_fault form.Picture m cells fault is = cc is
no_map_fault form.Mended m cells fault is = cc is

pub fault_on : (f : SurveyForm) (map : List ℕ) (cells : Option (List ℕ)) (m : Floor) → Reads map m → (why : SurveyFault) → IsFaultOn f m cells why → IsFault f map cells why
fault_on f map cells m reads survey_fault.NoMemory is = tt
fault_on f map cells m reads (survey_fault.Map fault) is = absurd (no_map_fault f m cells fault is)
fault_on f map cells m reads (survey_fault.Cells number) is = (m, reads, is)
