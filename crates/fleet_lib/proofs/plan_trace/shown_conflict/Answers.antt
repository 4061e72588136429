-- The trace of a plan that breaks a rule, or none.
use Rattle.std.proofs.Common.{◌∙◌, inr, Option, None, String, Global, subst}
use Rattle.fleet_convert.specs.Shown.{IsInvalidShown}
use Rattle.fleet_lib.proofs.plan_trace.shown_conflict.Goals as goal

pub returns-in_ok-from_slice-in-Some : goal.returns-in_ok-from_slice-in-Some
returns-in_ok-from_slice-in-Some c =
    inr (c.in-Some.text, subst (λ (o : Option (String Global)). IsInvalidShown c.args.map.now c.args.plan.now o) c.in-Some.is c.in_ok-text.ensures, c.in_ok-from_slice-in-Some.ensures.items ∙ c.as_bytes.ensures.value)

pub unshown-requires-clause-unfit : goal.unshown-requires-clause-unfit
unshown-requires-clause-unfit c = λ _. subst (λ (o : Option (String Global)). IsInvalidShown c.args.map.now c.args.plan.now o) c.in-None.is c.in_ok-text.ensures
