-- How the error writer is told what is wrong.
use Rattle.std.specs.Prelude.{ℕ, List, ◌++◌, codes, decimal}
use Rattle.fleet_text.specs.declared.said.Complaint.{Complaint}
use Rattle.fleet_text.specs.declared.said.Complaint.TheVariants as complaint
use Rattle.fleet_text.specs.declared.input.InputFault.{InputFault}
use Rattle.fleet_text.specs.declared.input.InputFault.TheVariants as input_fault
use Rattle.fleet_text.specs.Output.{map_fault_text, open_fault_text, trace_fault_text}

-- what is wrong, in the words of the error writer
abbrev pub complaint_text : Complaint → List ℕ
complaint_text complaint.File = codes "file"
complaint_text (complaint.Map fault) = codes "map " ++ map_fault_text fault
complaint_text (complaint.Script line) = codes "script " ++ decimal line
complaint_text (complaint.Opening fault) = codes "opening " ++ open_fault_text fault
complaint_text complaint.Rooms = codes "opening 7 no-rooms"
complaint_text (complaint.Trace fault) = codes "trace " ++ trace_fault_text fault
complaint_text complaint.Memory = codes "memory"
complaint_text complaint.Limit = codes "limit"

-- the whole line that the error writer is told
abbrev pub complaint_line : Complaint → List ℕ
complaint_line c = codes "errands: " ++ complaint_text c ++ codes "\n"

-- the status with which a program ends over a complaint, 3 to 8
abbrev pub status_of : Complaint → ℕ
status_of complaint.File = 3
status_of (complaint.Map fault) = 4
status_of (complaint.Script line) = 5
status_of (complaint.Opening fault) = 5
status_of complaint.Rooms = 5
status_of (complaint.Trace fault) = 6
status_of complaint.Memory = 7
status_of complaint.Limit = 8

-- what is complained of where an input failed
abbrev pub complaint_of : InputFault → Complaint
complaint_of input_fault.File = complaint.File
complaint_of input_fault.NoMemory = complaint.Memory
