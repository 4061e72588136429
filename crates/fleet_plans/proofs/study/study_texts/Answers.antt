-- The form is that of the text.
use Rattle.std.proofs.Common.{subst}
use Rattle.std.specs.Prelude.{IfOk}
use Rattle.fleet_plans.specs.declared.form.TextForm.{TextForm}
use Rattle.fleet_plans.specs.Study.{IsStudyBy}
use Rattle.fleet_plans.proofs.study.study_texts.Goals as goal

pub returns : goal.returns
returns c = subst (λ (f : TextForm). IfOk c.study_form.result (λ s. IsStudyBy f c.args.map.now c.args.text.now s)) c.form_of.ensures c.study_form.ensures
