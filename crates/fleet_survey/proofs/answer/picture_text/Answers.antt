use Rattle.std.proofs.lemmas.Result.{IfOk-weaker}
use Rattle.fleet_survey.proofs.answer.picture_text.Goals as goal

pub returns : goal.returns
returns c = IfOk-weaker c.survey_picture.result _ _ (λ text told. record { survey = c.in_ok-found.found; is = c.in_ok-found.ensures; told = told }) c.survey_picture.ensures
