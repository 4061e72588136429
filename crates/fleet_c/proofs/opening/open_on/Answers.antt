use Rattle.std.proofs.lemmas.Result.{err_from_is_err_and}
use Rattle.fleet_c.proofs.Refused.{on-floor}
use Rattle.fleet_c.proofs.opening.open_on.Goals as goal

pub returns-in_err-core-clause-err : goal.returns-in_err-core-clause-err
returns-in_err-core-clause-err c =
    let p = err_from_is_err_and c.from_residual-in_err-core.result c.from_residual-in_err-core.ensures.1 in
    rw (p.1, p.2) (on-floor c.args.map.now c.args.robots.now c.args.setup.now c.in-Ok.grid c.if-setup-ne-SETUP_SIZE.false c.in-Ok.ensures.read c.in_err-core.field-0.0 c.in_err-core.ensures.err)
