-- What is said where a trace was made, and where none was.
use Rattle.std.proofs.Common.{◌≡◌, ◌∙◌, ℕ, List, [], refl, string_bytes}
use Rattle.std.proofs.lemmas.Result.{IfOk-weaker}
use Rattle.fleet_convert.specs.PlanTrace.{IsTraced}
use Rattle.fleet_lib.specs.PlanTrace.{IsTraceOutcome, made, not_made}
use Rattle.fleet_lib.proofs.plan_trace.answer_trace.Goals as goal

told : (map plan text out complaint : List ℕ) → IsTraced map plan text → out ≡ text → complaint ≡ [] → IsTraceOutcome map plan (record { output = out; status = 0; complaint = complaint })
told map plan text out complaint traced is none = made text traced (rw (is, none) refl)

pub returns-in_ok-from_slice-in-Ok : goal.returns-in_ok-from_slice-in-Ok
returns-in_ok-from_slice-in-Ok c =
    told c.args.map.now c.args.plan.now (string_bytes c.in-Ok.text) c.in_ok-from_slice-in-Ok.field-0.items (string_bytes c.new.result) c.in-Ok.ensures.trace
    (c.in_ok-from_slice-in-Ok.ensures.items ∙ c.as_bytes.ensures.value) c.new.ensures.bytes

pub returns-in-Err : goal.returns-in-Err
returns-in-Err c = IfOk-weaker c.untraced.result _ _ (λ s e. not_made c.in-Err.fault c.in-Err.ensures.fault e) c.untraced.ensures
