use Rattle.std.proofs.Common.{◌+◌, ◌<◌, ◌≤◌, length, ap, arith}
use Rattle.slab.specs.Slab.{slab_len}
use Rattle.fleet_field.specs.inside.Uses.{covered}
use Rattle.fleet_field.proofs.Beside.{covered_within, goals_put}
use Rattle.fleet_field.proofs.keyed.Keyed.insert_reserved.Goals as goal

pub invariant_of-self : goal.invariant_of-self
invariant_of-self g c =
    let slab = c.self.inside.slab in
    let goals = c.self.inside.goals.items in
    let key = c.insert_reserved-key.result in
    let room : slab_len c.args.self.now + 1 ≤ covered slab.capacity (length goals) = omega (arith, c.requires, ap (λ s. s.capacity) c.self.view_is) in
    let less : key < length goals = covered_within slab.capacity (length goals) (slab_len c.args.self.now) key room (omega (arith, c.insert_reserved-key.ensures.key_in_range, c.insert_reserved-key.ensures.capacity)) in
    goals_put slab.slots c.insert_reserved-key.new.self.slots key c.insert_reserved-key.ensures.updates.others goals c.self.invariant c.goal-goal.result c.args.held c.insert_reserved-key.ensures.updates.changed c.goal-goal.ensures less
