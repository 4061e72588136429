use Rattle.std.proofs.lemmas.Result.{IfOk-from_err}
use Rattle.fleet_office.proofs.hall_state.HallState.look_from.Goals as goal

pub returns-in_err-look-clause-tick : goal.returns-in_err-look-clause-tick
returns-in_err-look-clause-tick g c = IfOk-from_err c.from_residual.result _ c.from_residual.ensures.0

pub returns-in_err-look-clause-shown : goal.returns-in_err-look-clause-shown
returns-in_err-look-clause-shown g c = IfOk-from_err c.from_residual.result _ c.from_residual.ensures.0

pub returns-clause-tick : goal.returns-clause-tick
returns-clause-tick g c = c.if-look-seen.false

pub returns-clause-shown : goal.returns-clause-shown
returns-clause-shown g c =
    let e = c.in_ok-look.ensures in
    record {
      legal = c.recall_laws.ensures.lawful.legal;
      tick = e.tick;
      placement = e.placement;
      eldest = e.eldest;
      idle = e.idle;
      chapter = e.chapter;
      entries = e.entries;
      told = e.told;
      exact = e.idle_within;
      within = e.within;
    }
