-- All that is said of the site follows from which site it is.
use Rattle.std.proofs.lemmas.Result.{IfOk-weaker}
use Rattle.fleet_refit.proofs.AfterSite.{is-after}
use Rattle.fleet_refit.proofs.site.Site.gone_on.Goals as goal

pub returns : goal.returns
returns g c = IfOk-weaker c.with_opening.result _ _ (λ site is. is-after c.args.self.now site c.args.opening.now is c.requires) c.with_opening.ensures
