-- What is said is how the judgement is said.
use Rattle.std.proofs.lemmas.Result.{IfOk-weaker}
use Rattle.fleet_lib.proofs.judge.answer_judge.Goals as goal

pub returns : goal.returns
returns c = IfOk-weaker c.said.result _ _ (λ s is. (c.in_ok-judgement.judgement, c.in_ok-judgement.ensures, is)) c.said.ensures
