-- What is said where the page was made, and where it was not.
use Rattle.std.proofs.lemmas.Result.{IfOk-weaker}
use Rattle.fleet_lib.specs.Runs.{logged, unlogged}
use Rattle.fleet_lib.proofs.runs.answer_log.Goals as goal

pub returns-in-Ok : goal.returns-in-Ok
returns-in-Ok c = logged c.in-Ok.page.items c.in-Ok.ensures.page c.shown.ensures

pub returns-in-Err : goal.returns-in-Err
returns-in-Err c = IfOk-weaker c.pair_refused.result _ _ (λ s e. unlogged c.in-Err.fault c.in-Err.ensures.fault e) c.pair_refused.ensures
