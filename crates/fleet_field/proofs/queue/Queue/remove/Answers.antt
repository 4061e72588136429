use Rattle.std.proofs.Common.{◌≡◌, ◌<◌, length, ap, ◌∙◌, arith}
use Rattle.fleet_field.specs.inside.Queue.{Queue}
use Rattle.fleet_field.proofs.Queued.{goals_count, beside_without, on_some}
use Rattle.fleet_field.proofs.queue.Queue.remove.Goals as goal

pub invariant_of-self : goal.invariant_of-self
invariant_of-self g c =
    let fields = c.self.inside.fields in
    let goals = c.self.inside.goals in
    let same : length goals.items ≡ length c.args.self.now.items = ap length c.self.invariant ∙ (goals_count fields.items ∙ ap (λ (q : Queue). length q.items) c.self.view_is) in
    let inside : c.args.at < goals.len = (let ok = goals.ok in omega (arith, ok, same, c.requires)) in
    beside_without fields.items goals.items c.remove-goal.new.self.items c.remove.new.self.items c.args.at c.self.invariant (on_some c.remove-goal.result _ (c.remove-goal.ensures.variant.1 inside) c.remove-goal.ensures.items) c.in-Some.ensures.items
