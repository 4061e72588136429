use Rattle.std.specs.Option.{option_copied}
use Rattle.std.proofs.lemmas.Result.{IfErr-weaker, IfOk-weaker}
use Rattle.fleet_survey.proofs.Told.{fault_on}
use Rattle.fleet_survey.proofs.answer.survey_text.Goals as goal

pub returns-clause-told : goal.returns-clause-told
returns-clause-told c = IfOk-weaker c.text_on.result _ _ (λ text told. record { floor = c.in_ok-grid.grid; reads = c.in_ok-grid.ensures.read; told = told }) c.text_on.ensures.told

pub returns-clause-refused : goal.returns-clause-refused
returns-clause-refused c = IfErr-weaker c.text_on.result _ _ (λ why is. fault_on c.args.form c.args.map.now (option_copied c.args.cells) c.in_ok-grid.grid c.in_ok-grid.ensures.read why is) c.text_on.ensures.refused
