-- What is known of the end is handed on.
use Rattle.std.proofs.lemmas.Result.{IfOk-from_err}
use Rattle.fleet_serve.proofs.serving.serve_opened.Goals as goal

pub work-requires-clause-on : goal.work-requires-clause-on
work-requires-clause-on g c κs within = c.requires.on

pub work-requires-clause-fresh : goal.work-requires-clause-fresh
work-requires-clause-fresh g c κs within = c.requires.fresh

pub work-requires-clause-events : goal.work-requires-clause-events
work-requires-clause-events g c κs within = c.requires.events

pub returns-in_err-home-clause-ended : goal.returns-in_err-home-clause-ended
returns-in_err-home-clause-ended g c = IfOk-from_err c.from_residual.result _ c.from_residual.ensures.0

pub returns-clause-later : goal.returns-clause-later
returns-clause-later g c = c.conclude.ensures.later

pub returns-clause-ended : goal.returns-clause-ended
returns-clause-ended g c = c.conclude.ensures.ended
