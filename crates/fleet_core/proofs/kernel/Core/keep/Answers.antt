use Rattle.fleet_core.proofs.Refusals.{kept-fields}
use Rattle.fleet_core.proofs.kernel.Core.keep.Goals as goal

pub invariant_of-self : goal.invariant_of-self
invariant_of-self g c =
    let k = c.self.invariant in
    kept-fields k c.keep.ensures.turns c.keep.ensures.aims c.keep.ensures.size c.keep.ensures.bridge (c.keep.ensures.keeps c.self.inside.grid k.aimed.kept)
