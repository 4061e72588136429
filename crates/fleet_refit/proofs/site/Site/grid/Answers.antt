-- Walls change no length.
use Rattle.std.proofs.Common.{◌≡◌, ◌∙◌, ap, length}
use Rattle.fleet_refit.proofs.Seats.{length-walled}
use Rattle.fleet_refit.proofs.site.Site.grid.Goals as goal

pub new-requires-clause-covered : goal.new-requires-clause-covered
new-requires-clause-covered g c = ap length c.in_ok-walled.ensures ∙ length-walled c.deref.result.now c.deref-2.result.now ∙ ap length c.deref.ensures.value ∙ c.self.invariant.0.covered
