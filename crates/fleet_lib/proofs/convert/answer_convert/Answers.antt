-- What is said where a plan was made, and where none was.
use Rattle.std.proofs.Common.{◌≡◌, ◌∙◌, ℕ, List, [], refl, string_bytes}
use Rattle.std.proofs.lemmas.Result.{IfOk-weaker}
use Rattle.fleet_lib.specs.Said.{Outcome}
use Rattle.fleet_lib.specs.Convert.{good, refused}
use Rattle.fleet_convert.specs.declared.conversion.PlanForm.{PlanForm}
use Rattle.fleet_convert.specs.Converted.{IsConverted}
use Rattle.fleet_lib.specs.Convert.{IsConvertOutcome}
use Rattle.fleet_lib.proofs.convert.answer_convert.Goals as goal

told : (form : PlanForm) (map trace text out complaint : List ℕ) → IsConverted form map trace text → out ≡ text → complaint ≡ []
    → IsConvertOutcome form map trace (record { output = out; status = 0; complaint = complaint })
told form map trace text out complaint made is none = good text made (rw (is, none) refl)

pub returns-in_ok-from_slice-in-Ok : goal.returns-in_ok-from_slice-in-Ok
returns-in_ok-from_slice-in-Ok c =
    told c.args.form c.args.map.now c.args.trace.now (string_bytes c.in-Ok.text) c.in_ok-from_slice-in-Ok.field-0.items (string_bytes c.new.result) c.in-Ok.ensures.plan
    (c.in_ok-from_slice-in-Ok.ensures.items ∙ c.as_bytes.ensures.value) c.new.ensures.bytes

pub returns-in-Err : goal.returns-in-Err
returns-in-Err c = IfOk-weaker c.faulty.result _ _ (λ s e. refused c.in-Err.fault c.in-Err.ensures.fault e) c.faulty.ensures
