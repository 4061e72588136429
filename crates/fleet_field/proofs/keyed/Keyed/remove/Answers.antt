use Rattle.fleet_field.proofs.Beside.{goals_cleared}
use Rattle.fleet_field.proofs.keyed.Keyed.remove.Goals as goal

pub invariant_of-self : goal.invariant_of-self
invariant_of-self g c =
    goals_cleared c.self.inside.slab.slots c.remove.new.self.slots c.args.key c.remove.ensures.updates.others c.self.inside.goals.items c.self.invariant 4294967295 c.remove.ensures.updates.changed
