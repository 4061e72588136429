-- What is said is that of the explanation.
use Rattle.std.proofs.lemmas.Result.{IfOk-weaker}
use Rattle.fleet_lib.proofs.explain.answer_explain_head.Goals as goal

pub returns : goal.returns
returns c = IfOk-weaker c.said_of_head.result _ _ (λ s e. (c.in_ok-explanation.explanation, c.in_ok-explanation.ensures, e)) c.said_of_head.ensures
