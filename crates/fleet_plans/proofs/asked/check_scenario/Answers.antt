-- The form is that of the text.
use Rattle.std.proofs.Common.{subst}
use Rattle.std.proofs.lemmas.Result.{IfOk-weaker}
use Rattle.fleet_plans.specs.declared.form.TextForm.{TextForm}
use Rattle.fleet_plans.specs.Answer.{IsTripsAnswer}
use Rattle.fleet_plans.proofs.asked.check_scenario.Goals as goal

pub returns : goal.returns
returns c =
    IfOk-weaker c.answer_trips.result _ _ (λ a is. subst (λ (f : TextForm). IsTripsAnswer c.args.map.now c.args.scenario.now f c.args.text.now a) c.form_of.ensures is) c.answer_trips.ensures
