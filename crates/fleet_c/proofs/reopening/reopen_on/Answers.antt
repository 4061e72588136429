use Rattle.std.proofs.lemmas.Result.{IfErr-weaker, IfOk-weaker}
use Rattle.fleet_c.proofs.Refused.{from-text}
use Rattle.fleet_c.proofs.reopening.reopen_on.Goals as goal

pub returns-clause-ok : goal.returns-clause-ok
returns-clause-ok c = IfOk-weaker c.fleet_from.result _ _ (λ f is. (record { sized = c.if-setup-ne-SETUP_SIZE.false; floor = c.in-Ok.grid; reads = c.in-Ok.ensures.read; goes_on = is.0 }, is.1)) c.fleet_from.ensures.ok

pub returns-clause-err : goal.returns-clause-err
returns-clause-err c =
    IfErr-weaker c.fleet_from.result _ _ (from-text c.args.map.now c.args.text.now c.args.robots.now c.args.setup.now c.in-Ok.grid c.if-setup-ne-SETUP_SIZE.false c.in-Ok.ensures.read) c.fleet_from.ensures.err
