-- The plan is read in the form that is named, or in that of its text.
use Rattle.std.proofs.Common.{subst}
use Rattle.fleet_plans.specs.declared.form.TextForm.{TextForm}
use Rattle.fleet_plans.specs.Study.{IsStudyBy}
use Rattle.fleet_lib.specs.Check.{form_by}
use Rattle.fleet_lib.proofs.Executions.{read_by}
use Rattle.fleet_lib.proofs.execute.run_execute.Goals as goal

pub returns-in-Ok : goal.returns-in-Ok
returns-in-Ok g c =
    read_by (form_by c.args.texts.form c.args.texts.plan.now) c.args.texts.map.now c.args.texts.plan.now c.args.rules.clearance c.in-Ok.study (g.I.Read.remaining c.args.input.now) (g.W.Write.contents c.args.output.now) (g.W.Write.contents c.execute_study.new.output)
    (g.E.Write.contents c.args.error.now) (g.E.Write.contents c.execute_study.new.error) c.execute_study.result
    (subst (λ (f : TextForm). IsStudyBy f c.args.texts.map.now c.args.texts.plan.now c.in-Ok.study) c.form_by-form.ensures c.in-Ok.ensures) c.execute_study.ensures
