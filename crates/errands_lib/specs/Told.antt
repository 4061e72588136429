-- What the program leaves on its two writers.
use Rattle.std.specs.Prelude.{◌≡◌, ℕ, ◌≤◌, Bool, true, false, List, length, Option}
use Rattle.std.specs.Io.KnownBytes.{Appends}
use Rattle.errands_lib.specs.declared.job.Job.{Job}
use Rattle.errands_lib.specs.declared.job.Job.TheVariants as job
use Rattle.fleet_text.specs.declared.input.InputFault.{InputFault}
use Rattle.fleet_text.specs.declared.input.InputFault.TheVariants as input_fault
use Rattle.fleet_text.specs.Complaint.{complaint_line, complaint_of, status_of}
use Rattle.fleet_text.specs.Kit.{KitLaws}
use Rattle.fleet_text.specs.Outcome.{Outcome}
use Rattle.errands_lib.specs.Outcome.{IsJobOutcome}
use Rattle.fleet_text.specs.Transfer.{AppendsPrefix}

-- whether the job names two files
abbrev pub names_two : Job → Bool
names_two job.Bundle = false
names_two (job.Map file) = false
names_two (job.Run map script trace) = true
names_two (job.Judge map trace) = true
names_two (job.Serve map script) = true

-- the program ended for this reason, and the error writer got a prefix of the line that says so
pub record Failed (fault : InputFault) (old_err new_err : Option (List ℕ)) (status : ℕ) : Type 0 where
  pub ends : status ≡ status_of (complaint_of fault)
  pub line : AppendsPrefix old_err new_err (complaint_line (complaint_of fault))

-- what there is to say was written: all of it, or a prefix of it where a write failed
pub data IsTold (o : Outcome) (old_out new_out old_err new_err : Option (List ℕ)) (status : ℕ) : Type 0 where
  whole : status ≡ o.status → Appends old_out new_out o.output → AppendsPrefix old_err new_err o.complaint → IsTold o old_out new_out old_err new_err status
  cut_short : AppendsPrefix old_out new_out o.output → Failed input_fault.File old_err new_err status → IsTold o old_out new_out old_err new_err status

-- what there is to say of files that hold these bytes
pub record IsAnswer (kit : KitLaws) (job : Job) (first second : List ℕ) (o : Outcome) : Type 0 where
  pub short : length first ≤ 16777216
  pub other_short : length second ≤ 16777216
  pub outcome : IsJobOutcome kit job first second o

-- what the program left on its writers when it ended with this status, where its job's files hold these bytes
pub data IsShown (kit : KitLaws) (job : Job) (first second : List ℕ) (old_out new_out old_err new_err : Option (List ℕ)) (status : ℕ) : Type 0 where
  told : (o : Outcome) → IsAnswer kit job first second o → IsTold o old_out new_out old_err new_err status → IsShown kit job first second old_out new_out old_err new_err status
  -- a read failed or a file is too long, or memory ran out or a thread could not be started
  nothing : (fault : InputFault) → new_out ≡ old_out → Failed fault old_err new_err status → IsShown kit job first second old_out new_out old_err new_err status
