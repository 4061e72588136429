use Rattle.fleet_core.proofs.Refusals.{kept-fields}
use Rattle.fleet_core.proofs.kernel.Core.search_ahead.Goals as goal

pub invariant_of-self : goal.invariant_of-self
invariant_of-self g c =
    let k = c.self.invariant in
    let e = c.search_ahead.ensures in
    kept-fields k e.turns e.aims e.size e.bridge e.keeps
