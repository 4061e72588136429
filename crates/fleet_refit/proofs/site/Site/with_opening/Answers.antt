-- Neither the map's form nor the number of robots changes.
use Rattle.std.proofs.Common.{ap, arith, length}
use Rattle.fleet_refit.proofs.AfterSite.{same-form}
use Rattle.fleet_refit.proofs.site.Site.with_opening.Goals as goal

pub invariant_of-result : goal.invariant_of-result
invariant_of-result g c = (
  same-form _ _ _ _ _ _ c.in_ok-map.ensures.height c.in_ok-map.ensures.width c.in_ok-map.ensures.cells c.self.invariant.0,
  omega (arith, c.in_ok-seats.ensures.length, ap length c.deref.ensures.value, c.self.invariant.1),
)
