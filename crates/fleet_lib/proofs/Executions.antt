-- What comes of a plan that was studied, and of one that was not.
use Rattle.std.proofs.Common.{◌≡◌, ℕ, List, true, refl}
use Rattle.std.specs.Prelude.{Option, Some, None, IfSome}
use Rattle.std.proofs.KnownBytes.{Appends-nil}
use Rattle.std.specs.Io.KnownBytes.{Appends}
use Rattle.execution_law.specs.declared.clearance.Clearance.{Clearance}
use Rattle.fleet_text.specs.declared.input.InputFault.TheVariants as input
use Rattle.fleet_plans.specs.declared.form.TextForm.{TextForm}
use Rattle.fleet_plans.specs.declared.study.Study.{Study}
use Rattle.fleet_plans.specs.Study.{IsStudyBy}
use Rattle.fleet_convert.specs.PlanTrace.{is_valid}
use Rattle.fleet_execute.specs.declared.fault.HoldFault.{HoldFault}
use Rattle.fleet_execute.specs.Placed.{IsBroken, IsExecution}
use Rattle.fleet_lib.specs.Execute.{FailedBy, IsExecuted, IsExecutedBy}
use Rattle.fleet_lib.specs.Execute.IsExecutedBy.{held, broken}
use Rattle.fleet_lib.specs.Execute.IsExecuted.{unread, read}
use Rattle.fleet_lib.specs.Said.{Failed}

pub study_held : (clearance : Clearance) (s : Study) (known before after err : Option (List ℕ)) → is_valid s.answer ≡ true
    → IfSome known (λ bytes. (text : List ℕ) × IsExecution clearance s.places bytes text × Appends before after text)
    → IfSome known (λ bytes. IsExecutedBy clearance s bytes before after err err 0)
study_held clearance s None before after err valid all = tt
study_held clearance s (Some bytes) before after err valid (text, said, taken) = held valid text said refl taken (Appends-nil err)

pub study_broken : (clearance : Clearance) (s : Study) (known before after err new_err : Option (List ℕ)) (why : HoldFault) (status : ℕ) → is_valid s.answer ≡ true
    → IfSome known (λ bytes. IsBroken clearance s.places bytes before after why) → FailedBy why err new_err status
    → IfSome known (λ bytes. IsExecutedBy clearance s bytes before after err new_err status)
study_broken clearance s None before after err new_err why status valid cut failed = tt
study_broken clearance s (Some bytes) before after err new_err why status valid cut failed = broken valid why cut failed

pub read_by : (form : TextForm) (map plan : List ℕ) (clearance : Clearance) (s : Study) (known before after err new_err : Option (List ℕ)) (status : ℕ) → IsStudyBy form map plan s
    → IfSome known (λ bytes. IsExecutedBy clearance s bytes before after err new_err status)
    → IfSome known (λ bytes. IsExecuted form map plan clearance bytes before after err new_err status)
read_by form map plan clearance s None before after err new_err status study done = tt
read_by form map plan clearance s (Some bytes) before after err new_err status study done = read s study done

pub unread_by : (form : TextForm) (map plan : List ℕ) (clearance : Clearance) (known before err new_err : Option (List ℕ)) (status : ℕ) → Failed input.NoMemory err new_err status
    → IfSome known (λ bytes. IsExecuted form map plan clearance bytes before before err new_err status)
unread_by form map plan clearance None before err new_err status failed = tt
unread_by form map plan clearance (Some bytes) before err new_err status failed = unread failed (Appends-nil before)
