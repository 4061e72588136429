-- The result of the word `map`.
use Rattle.std.specs.Prelude.{◌≡◌, ℕ, List, Option, [], ◌++◌, codes, decimal}
use Rattle.fleet_text.specs.declared.said.Complaint.TheVariants as complaint
use Rattle.fleet_text.specs.Complaint.{complaint_text}
use Rattle.fleet_survey.specs.Answer.{IsFault, IsTold}
use Rattle.fleet_survey.specs.declared.answer.SurveyForm.{SurveyForm}
use Rattle.fleet_survey.specs.declared.fault.SurveyFault.{SurveyFault}
use Rattle.fleet_survey.specs.declared.fault.SurveyFault.TheVariants as fault
use Rattle.fleet_lib.specs.Said.{Outcome}

-- how a fault is named: a map as by `errands judge`, and a list of cells by its first line that is none
abbrev pub fault_text : SurveyFault → List ℕ
fault_text (fault.Map f) = complaint_text (complaint.Map f)
fault_text (fault.Cells line) = codes "cells " ++ decimal line
fault_text fault.NoMemory = codes "memory"

-- the status of a fault: 4 the map, 5 the list of cells, 7 memory
abbrev pub fault_status : SurveyFault → ℕ
fault_status (fault.Map f) = 4
fault_status (fault.Cells line) = 5
fault_status fault.NoMemory = 7

-- what is said of a fault, with its status
abbrev pub faulty : SurveyFault → Outcome
faulty f = record { output = []; status = fault_status f; complaint = codes "fleet: " ++ (fault_text f ++ codes "\n") }

-- what is told of the text of a map, for n robots and a list of cells; or why nothing is
pub data IsMapOutcome (form : SurveyForm) (n : ℕ) (map : List ℕ) (cells : Option (List ℕ)) (o : Outcome) : Type 0 where
  told : (text : List ℕ) → IsTold form n map cells text → o ≡ record { output = text; status = 0; complaint = [] } → IsMapOutcome form n map cells o
  refused : (why : SurveyFault) → IsFault form map cells why → o ≡ faulty why → IsMapOutcome form n map cells o
