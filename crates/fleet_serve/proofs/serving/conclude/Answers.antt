-- What the end of a serve is known to be.
use Rattle.std.proofs.Common.{◌≡◌, arith}
use Rattle.std.proofs.lemmas.Result.{IfOk-from_err}
use Rattle.fleet_history.specs.History.{history_of}
use Rattle.fleet_serve.proofs.Ended.{is-end}
use Rattle.fleet_serve.proofs.serving.conclude.Goals as goal

pub returns-in-Ok-2-clause-ended : goal.returns-in-Ok-2-clause-ended
returns-in-Ok-2-clause-ended g c =
    let last = c.in-Ok.last in
    let first : last.chapter.number ≡ 0 = omega arith in
    let e = c.in-Ok.ensures in
    is-end g.N.OfficeName.start last.grid (history_of last.chapter) last.chapter.number last.tick g.N.OfficeName.rings c.in_ok-clients.clients.items last.rest.items first e.since e.told e.all c.in_ok-clients.ensures.on e.distinct
    g.N.ScriptName.events g.N.ScriptName.orders c.in_ok-clients.lane_full c.in_ok-clients.ensures.ran e.legal e.planned e.advancing e.bounded e.tick.0

pub returns-in-Ok-2-clause-later : goal.returns-in-Ok-2-clause-later
returns-in-Ok-2-clause-later g c = tt

pub returns-in-Ok-clause-later : goal.returns-in-Ok-clause-later
returns-in-Ok-clause-later g c = tt

pub returns-in-Ok-clause-ended : goal.returns-in-Ok-clause-ended
returns-in-Ok-clause-ended g c = tt

pub returns-in-Err-clause-later : goal.returns-in-Err-clause-later
returns-in-Err-clause-later g c = c.conclusion_fault.ensures

pub returns-in-Err-clause-ended : goal.returns-in-Err-clause-ended
returns-in-Err-clause-ended g c = tt

pub returns-in_err-clients-clause-ended : goal.returns-in_err-clients-clause-ended
returns-in_err-clients-clause-ended g c = IfOk-from_err c.from_residual.result _ c.from_residual.ensures.0
