-- The first robot that has the errand has it no more.
use Rattle.std.proofs.Common.{◌≡◌, Some, ap, subst, sym, ◌∙◌}
use Rattle.std.proofs.lemmas.Result.{on_ok_weaker}
use Rattle.std.specs.List.{position}
use Rattle.fleet_refit.specs.Fault.{has}
use Rattle.fleet_refit.proofs.Cancelled.{cancelled}
use Rattle.fleet_refit.proofs.site.Site.cancel.Goals as goal

pub returns : goal.returns
returns g c = on_ok_weaker c.cut.result
    (λ e. (e.0, cancelled _ _ c.args.client c.args.number c.in-Some.robot c.index_mut.result.now c.cut.new.robot e.0 c.self.view_is (subst (λ l. position (has c.args.client c.args.number) l ≡ Some c.in-Some.robot) c.deref.ensures.value (sym c.owner.ensures ∙ c.in-Some.is)) c.index_mut.ensures.value e.1, e.2))
    c.cut.ensures
