use Rattle.fleet_field.proofs.Queued.{beside_first}
use Rattle.fleet_field.proofs.queue.Queue.truncate.Goals as goal

pub invariant_of-self : goal.invariant_of-self
invariant_of-self g c =
    beside_first c.self.inside.fields.items c.self.inside.goals.items c.truncate-2.new.self.items c.truncate.new.self.items c.args.len c.self.invariant c.truncate-2.ensures.items c.truncate.ensures.items
