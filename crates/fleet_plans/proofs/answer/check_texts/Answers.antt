-- The form is that of the text.
use Rattle.std.proofs.Common.{subst}
use Rattle.std.proofs.lemmas.Result.{IfOk-weaker}
use Rattle.fleet_plans.specs.declared.form.TextForm.{TextForm}
use Rattle.fleet_plans.specs.Goals.{Nothing}
use Rattle.fleet_plans.specs.Answer.{IsAnswerTo}
use Rattle.fleet_plans.proofs.answer.check_texts.Goals as goal

pub returns : goal.returns
returns c =
    IfOk-weaker c.answer_to.result _ _ (λ a is. subst (λ (f : TextForm). IsAnswerTo Nothing c.args.map.now f c.args.text.now a) c.form_of.ensures is) c.answer_to.ensures
