-- The result of the word `convert`.
use Rattle.std.specs.Prelude.{◌≡◌, ℕ, List, [], ◌++◌, codes, decimal}
use Rattle.fleet_text.specs.declared.said.Complaint.TheVariants as complaint
use Rattle.fleet_text.specs.Complaint.{complaint_text}
use Rattle.fleet_convert.specs.declared.conversion.PlanForm.{PlanForm}
use Rattle.fleet_convert.specs.declared.conversion.ConvertFault.{ConvertFault}
use Rattle.fleet_convert.specs.declared.conversion.ConvertFault.TheVariants as fault
use Rattle.fleet_convert.specs.Converted.{IsConverted, IsUnconverted}
use Rattle.fleet_lib.specs.Said.{Outcome}

-- how a fault is named: a map, a trace and a trace that is not legal as by `errands judge`
abbrev pub fault_text : ConvertFault → List ℕ
fault_text (fault.Map f) = complaint_text (complaint.Map f)
fault_text (fault.Trace f) = complaint_text (complaint.Trace f)
fault_text (fault.Illegal at rule) = codes "illegal " ++ decimal at ++ codes " " ++ decimal rule
fault_text fault.NoMemory = complaint_text complaint.Memory

-- the status of a fault: 4 the map, 6 the trace, 7 memory
abbrev pub fault_status : ConvertFault → ℕ
fault_status (fault.Map f) = 4
fault_status (fault.Trace f) = 6
fault_status (fault.Illegal at rule) = 6
fault_status fault.NoMemory = 7

-- what is said of a fault, with its status
abbrev pub faulty : ConvertFault → Outcome
faulty f = record { output = []; status = fault_status f; complaint = codes "fleet: " ++ fault_text f ++ codes "\n" }

-- what is said to a map and to a trace on it
pub data IsConvertOutcome (form : PlanForm) (map trace : List ℕ) (o : Outcome) : Type 0 where
  good : (text : List ℕ) → IsConverted form map trace text → o ≡ record { output = text; status = 0; complaint = [] } → IsConvertOutcome form map trace o
  refused : (f : ConvertFault) → IsUnconverted map trace f → o ≡ faulty f → IsConvertOutcome form map trace o
