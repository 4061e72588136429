-- What is said is that of the answer, after what is said of the head.
use Rattle.std.proofs.Common.{◌≡◌, Option, ap, ◌∙◌, subst}
use Rattle.std.proofs.lemmas.Result.{IfOk-weaker}
use Rattle.std.specs.Option.{option_copied}
use Rattle.fleet_lib.specs.Said.{Outcome, said_of}
use Rattle.fleet_lib.specs.Check.{noted, sized, IsOutcomeBy, IsSaidOf}
use Rattle.fleet_plans.specs.declared.answer.PlanAnswer.{PlanAnswer}
use Rattle.fleet_plans.specs.declared.form.TextForm.{TextForm}
use Rattle.fleet_plans.specs.declared.misspelt.Misspelt.{Misspelt}
use Rattle.fleet_plans.specs.Misspelt.{misspelt_of}
use Rattle.fleet_plans.specs.Reading.{head_by}
use Rattle.fleet_lib.proofs.check.answer_check.Goals as goal

after_head : (o : Outcome) (found line : Option Misspelt) (said : Outcome) → o ≡ noted found said → found ≡ line → o ≡ noted line said
after_head o found line said first head = first ∙ ap (λ (f : Option Misspelt). noted f said) head

pub returns : goal.returns
returns c =
    let answer = c.in_ok-answer.answer in
    let form = c.form_by-form.result in
    let line = misspelt_of 1 (head_by form c.args.plan.now) in
    let said = said_of c.in_ok-said.said in
    IfOk-weaker c.noted.result _ _
    (λ s e. subst (λ (f : TextForm). IsOutcomeBy f c.args.rules (option_copied c.args.scenario) c.args.map.now c.args.plan.now (said_of s)) c.form_by-form.ensures (
      answer,
      said,
      c.in_ok-answer.ensures,
      subst (λ (a : PlanAnswer). IsSaidOf c.args.rules.all form c.args.map.now c.args.plan.now a said) c.sized.ensures c.in_ok-said.ensures,
      after_head (said_of s) c.first_misspelt.result line said e c.first_misspelt.ensures,
    ))
    c.noted.ensures
