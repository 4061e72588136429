-- The robot's cell alone changes.
use Rattle.std.proofs.Common.{refl}
use Rattle.fleet_refit.specs.Changed.{ComesTo}
use Rattle.fleet_refit.proofs.Replaced.{replaced}
use Rattle.fleet_refit.proofs.site.Site.carry.Goals as goal

pub returns : goal.returns
returns g c = replaced (ComesTo c.args.cell) _ _ c.args.robot c.index_mut.result.now _ c.self.view_is c.requires c.index_mut.ensures.value refl
