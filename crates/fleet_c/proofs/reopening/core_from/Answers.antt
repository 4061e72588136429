use Rattle.std.proofs.lemmas.Result.{IfOk-weaker, IfErr-weaker}
use Rattle.fleet_c.proofs.Refused.{from-chapter}
use Rattle.fleet_c.proofs.reopening.core_from.Goals as goal

pub returns-in-Ok-clause-ok : goal.returns-in-Ok-clause-ok
returns-in-Ok-clause-ok c = IfOk-weaker c.gone_on-core.result _ _ (λ w is. record { kept = _; tells = c.in-Ok.ensures.found; goes_on = is }) c.gone_on-core.ensures.ok

pub returns-in-Ok-clause-err : goal.returns-in-Ok-clause-err
returns-in-Ok-clause-err c = IfErr-weaker c.gone_on-core.result _ _ (from-chapter c.args.grid c.args.text.now _ c.args.robots.now c.args.setup.now c.in-Ok.ensures.found) c.gone_on-core.ensures.err
