-- What the word `execute` writes, and its status.
use Rattle.std.specs.Prelude.{◌≡◌, ℕ, List, [], true, false, Option, codes}
use Rattle.std.specs.Io.KnownBytes.{Appends}
use Rattle.execution_law.specs.declared.clearance.Clearance.{Clearance}
use Rattle.fleet_text.specs.Transfer.{AppendsPrefix}
use Rattle.fleet_text.specs.declared.input.InputFault.TheVariants as input
use Rattle.fleet_plans.specs.declared.form.TextForm.{TextForm}
use Rattle.fleet_plans.specs.declared.study.Study.{Study}
use Rattle.fleet_plans.specs.Study.{IsStudyBy}
use Rattle.fleet_convert.specs.PlanTrace.{is_valid}
use Rattle.fleet_execute.specs.declared.fault.HoldFault.{HoldFault}
use Rattle.fleet_execute.specs.declared.fault.HoldFault.TheVariants as fault
use Rattle.fleet_execute.specs.Placed.{IsBroken, IsExecution}
use Rattle.fleet_lib.specs.Check.{outcome_of}
use Rattle.fleet_lib.specs.Said.{Failed, IsTold}

-- what is said where an execution breaks off; a valid plan has no conflict
abbrev pub FailedBy : HoldFault → Option (List ℕ) → Option (List ℕ) → ℕ → Type 0
FailedBy fault.Input old new status = Failed input.File old new status
FailedBy fault.Output old new status = Failed input.File old new status
FailedBy fault.NoMemory old new status = Failed input.NoMemory old new status
FailedBy (fault.Conflict tick) old new status = (status ≡ 6) × AppendsPrefix old new (codes "fleet: plan conflict\n")

-- a plan that is not valid is refused as `check` refuses it; a valid one is executed, with these bytes as the input, until it is done, the input
-- ends, or it breaks off
pub data IsExecutedBy (clearance : Clearance) (s : Study) (bytes : List ℕ) (old_out new_out old_err new_err : Option (List ℕ)) (status : ℕ) : Type 0 where
  refused : is_valid s.answer ≡ false → IsTold (outcome_of s.answer) old_out new_out old_err new_err status → IsExecutedBy clearance s bytes old_out new_out old_err new_err status
  unsaid : is_valid s.answer ≡ false → Failed input.NoMemory old_err new_err status → Appends old_out new_out [] → IsExecutedBy clearance s bytes old_out new_out old_err new_err status
  held : is_valid s.answer ≡ true → (text : List ℕ) → IsExecution clearance s.places bytes text → status ≡ 0 → Appends old_out new_out text → Appends old_err new_err []
      → IsExecutedBy clearance s bytes old_out new_out old_err new_err status
  broken : is_valid s.answer ≡ true → (why : HoldFault) → IsBroken clearance s.places bytes old_out new_out why → FailedBy why old_err new_err status
      → IsExecutedBy clearance s bytes old_out new_out old_err new_err status

-- the plan is read in this form; or memory ran out before it was read
pub data IsExecuted (form : TextForm) (map plan : List ℕ) (clearance : Clearance) (bytes : List ℕ) (old_out new_out old_err new_err : Option (List ℕ)) (status : ℕ) : Type 0 where
  unread : Failed input.NoMemory old_err new_err status → Appends old_out new_out [] → IsExecuted form map plan clearance bytes old_out new_out old_err new_err status
  read : (s : Study) → IsStudyBy form map plan s → IsExecutedBy clearance s bytes old_out new_out old_err new_err status
      → IsExecuted form map plan clearance bytes old_out new_out old_err new_err status
