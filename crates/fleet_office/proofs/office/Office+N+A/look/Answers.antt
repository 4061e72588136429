use Rattle.std.proofs.Common.{◌≤◌, subst}
use Rattle.std.specs.Prelude.{IfOk}
use Rattle.std.proofs.lemmas.Result.{IfOk-weaker}
use Rattle.fleet_office.proofs.office.Office+N+A.look.Goals as goal

pub returns-clause-tick : goal.returns-clause-tick
returns-clause-tick g c = subst (λ n. IfOk c.look_from.result (λ look. n ≤ look.tick)) c.ticks.ensures c.look_from.ensures.tick

pub returns-clause-shown : goal.returns-clause-shown
returns-clause-shown g c = IfOk-weaker c.look_from.result _ _ (λ look shows. (c.deref.result.now.state, c.recall_laws.ensures.lawful, shows)) c.look_from.ensures.shown
