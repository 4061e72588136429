-- A report is taken, and moves begin.
use Rattle.std.proofs.Common.{Ok, inl, ap}
use Rattle.std.proofs.lemmas.Result.{on_ok_weaker}
use Rattle.live_vehicles.specs.Follows.{with_reached}
use Rattle.live_vehicles.proofs.vehicles.Vehicles.answer.Goals as goal

pub returns : goal.returns
returns c = on_ok_weaker c.begin_all.result (λ begun o x.
    let one = c.in_ok-reached.ensures.reached (ap Ok c.if-not-branch.false) o x in
    inl (one.reached, one.reports, record { on = one.on; begun = begun (with_reached o one.reached) one.follows })) c.begin_all.ensures.begun
