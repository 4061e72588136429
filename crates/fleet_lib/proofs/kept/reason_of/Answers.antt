-- What `explain_trace` says is said of a text that tells no trace, and of a chapter that is not legal.
use Rattle.std.proofs.Common.{◌∙◌, Bool, refl, sym, subst}
use Rattle.fleet_lib.specs.declared.kept.KeptFault.{KeptFault}
use Rattle.fleet_lib.specs.declared.kept.Reason.TheVariants.{Explained}
use Rattle.fleet_lib.specs.Kept.{IsReasonOf, IsResumeReason}
use Rattle.fleet_lib.proofs.kept.reason_of.Goals as goal

pub returns-in_ok-explain_trace-in-Resume : goal.returns-in_ok-explain_trace-in-Resume
returns-in_ok-explain_trace-in-Resume c =
    let e = c.in_ok-explain_trace-in-Resume.field-0 in
    subst (λ (f : KeptFault). IsReasonOf c.args.map.now c.args.text.now f (Explained e)) (sym c.in-Resume.is)
    (subst (λ (b : Bool). IsResumeReason b c.args.map.now c.args.text.now c.in-Resume.fault (Explained e)) (sym (sym c.is_illegal.ensures ∙ c.if-is_illegal.true)) (e, c.in_ok-explain_trace-in-Resume.ensures, refl))

pub returns-in_ok-explain_trace-in-Trace : goal.returns-in_ok-explain_trace-in-Trace
returns-in_ok-explain_trace-in-Trace c =
    let e = c.in_ok-explain_trace-in-Trace.field-0 in
    subst (λ (f : KeptFault). IsReasonOf c.args.map.now c.args.text.now f (Explained e)) (sym c.in-Trace.is) (e, c.in_ok-explain_trace-in-Trace.ensures, refl)
