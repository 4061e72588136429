-- What there is for the two writers, and the status: the text for the output, and the text for the error writer.
use Rattle.std.specs.Prelude.{ℕ, List, []}
use Rattle.fleet_map.specs.declared.fault.MapFault.{MapFault}
use Rattle.fleet_map.specs.declared.fault.MapFault.TheVariants as map_fault
use Rattle.fleet_text.specs.declared.said.Complaint.{Complaint}
use Rattle.fleet_text.specs.Complaint.{complaint_line, status_of}

-- the text for the output, the status, and the text for the error writer
pub record Outcome : Type 0 where
  pub output : List ℕ
  pub status : ℕ
  pub complaint : List ℕ

-- nothing for the output, and a complaint
abbrev pub fault : Complaint → Outcome
fault c = record { output = []; status = status_of c; complaint = complaint_line c }

-- a text for the output, and nothing is wrong
abbrev pub good : List ℕ → Outcome
good text = record { output = text; status = 0; complaint = [] }

-- a fault other than out of memory
abbrev pub IsMapNamed : MapFault → Type 0
IsMapNamed map_fault.NoMemory = ⊥
IsMapNamed _ = Unit {0}
