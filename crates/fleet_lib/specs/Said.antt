-- What the program has to say, and leaves on its two writers.
use Rattle.std.specs.Prelude.{◌≡◌, ℕ, List, Option, codes, string_bytes}
use Rattle.std.specs.Io.KnownBytes.{Appends}
use Rattle.fleet_text.specs.Transfer.{AppendsPrefix}
use Rattle.fleet_text.specs.declared.input.InputFault.{InputFault}
use Rattle.fleet_text.specs.declared.input.InputFault.TheVariants as fault
use Rattle.fleet_lib.specs.declared.said.Said.{Said}

-- a text for the output, the status, and a text for the error writer
pub record Outcome : Type 0 where
  pub output : List ℕ
  pub status : ℕ
  pub complaint : List ℕ

-- what the program has to say, without its memory
abbrev pub said_of : Said → Outcome
said_of s = record { output = s.output.items; status = s.status; complaint = string_bytes s.complaint }

-- a file or memory failed: the status says so, and the error writer got the front of a line
abbrev pub Failed : InputFault → Option (List ℕ) → Option (List ℕ) → ℕ → Type 0
Failed fault.File old new status = (status ≡ 3) × AppendsPrefix old new (codes "fleet: file\n")
Failed fault.NoMemory old new status = (status ≡ 7) × AppendsPrefix old new (codes "fleet: memory\n")

-- what there is to say was written: all of it, or the front of it where a write failed
pub data IsTold (o : Outcome) (old_out new_out old_err new_err : Option (List ℕ)) (status : ℕ) : Type 0 where
  whole : status ≡ o.status → Appends old_out new_out o.output → AppendsPrefix old_err new_err o.complaint → IsTold o old_out new_out old_err new_err status
  cut_short : AppendsPrefix old_out new_out o.output → Failed fault.File old_err new_err status → IsTold o old_out new_out old_err new_err status
