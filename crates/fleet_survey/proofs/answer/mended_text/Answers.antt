use Rattle.std.proofs.lemmas.Result.{IfOk-weaker}
use Rattle.fleet_survey.proofs.answer.mended_text.Goals as goal

pub returns : goal.returns
returns c = IfOk-weaker c.mending_lines.result _ _ (λ text told. record { mending = c.in_ok-mending.mending; is = c.in_ok-mending.ensures; told = told }) c.mending_lines.ensures
