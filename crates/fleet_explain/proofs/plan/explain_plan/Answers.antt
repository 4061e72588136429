-- What is said of a plan's answer, and of a map that is none.
use Rattle.std.proofs.Common.{refl}
use Rattle.std.proofs.lemmas.Result.{IfOk-weaker}
use Rattle.fleet_map.specs.Grammar.{view}
use Rattle.fleet_explain.specs.Plans.{no_map, on_map}
use Rattle.fleet_explain.proofs.plan.explain_plan.Goals as goal

pub returns-in-Err : goal.returns-in-Err
returns-in-Err c = no_map c.in_ok-explanation-in-Err.explanation c.in_ok-explanation-in-Err.ensures refl

pub returns : goal.returns
returns c = IfOk-weaker c.explained.result _ _ (λ e is. on_map (view c.in-Ok.floor) c.in_ok-answer.answer c.in-Ok.ensures.exact c.in_ok-answer.ensures is) c.explained.ensures
