-- The result of the word `view`.
use Rattle.std.specs.Prelude.{◌≡◌, ℕ, List, [], ◌++◌, Some, None, codes, decimal}
use Rattle.fleet_text.specs.declared.said.Complaint.TheVariants as complaint
use Rattle.fleet_text.specs.Complaint.{complaint_text}
use Rattle.fleet_view.specs.declared.fault.ViewFault.{ViewFault}
use Rattle.fleet_view.specs.declared.fault.ViewFault.TheVariants as fault
use Rattle.fleet_view.specs.View.{IsPage, IsPicture, IsUnshown}
use Rattle.fleet_lib.specs.declared.words.view.Shown.{Shown}
use Rattle.fleet_lib.specs.declared.words.view.Shown.TheVariants.{Page, Moving, Still}
use Rattle.fleet_lib.specs.Said.{Outcome}

-- the page or the picture that was asked for
abbrev pub IsShown : Shown → List ℕ → List (List ℕ) → List ℕ → Type 0
IsShown Page map traces text = IsPage map traces text
IsShown Moving map traces text = IsPicture None map traces text
IsShown (Still tick) map traces text = IsPicture (Some tick) map traces text

-- how a fault is named: a map and a trace as by `errands judge`
abbrev pub fault_text : ViewFault → List ℕ
fault_text (fault.Map f) = complaint_text (complaint.Map f)
fault_text (fault.Trace f) = complaint_text (complaint.Trace f)
fault_text (fault.Chapter number) = codes "chapter " ++ decimal number
fault_text (fault.OffMap number) = codes "off-map " ++ decimal number
fault_text fault.NoMemory = complaint_text complaint.Memory

-- the status of a fault: 4 the map, 6 a trace, 7 memory
abbrev pub fault_status : ViewFault → ℕ
fault_status (fault.Map f) = 4
fault_status (fault.Trace f) = 6
fault_status (fault.Chapter number) = 6
fault_status (fault.OffMap number) = 6
fault_status fault.NoMemory = 7

-- what is said of a fault, with its status
abbrev pub faulty : ViewFault → Outcome
faulty f = record { output = []; status = fault_status f; complaint = codes "fleet: " ++ fault_text f ++ codes "\n" }

-- what is said to a map and to traces on it
pub data IsViewOutcome (shown : Shown) (map : List ℕ) (traces : List (List ℕ)) (o : Outcome) : Type 0 where
  good : (text : List ℕ) → IsShown shown map traces text → o ≡ record { output = text; status = 0; complaint = [] } → IsViewOutcome shown map traces o
  refused : (f : ViewFault) → IsUnshown map traces f → o ≡ faulty f → IsViewOutcome shown map traces o
