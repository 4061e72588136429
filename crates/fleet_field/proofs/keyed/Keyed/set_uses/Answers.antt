use Rattle.std.proofs.Common.{◌≡◌, ◌≢◌, ℕ, refl, sym, ap, ◌∙◌}
use Rattle.fleet_field.specs.Store.{shown}
use Rattle.fleet_field.proofs.Beside.{goals_same}
use Rattle.fleet_field.proofs.keyed.Keyed.set_uses.Goals as goal

pub invariant_of-self : goal.invariant_of-self
invariant_of-self g c =
    let slots = c.self.inside.slab.slots in
    let new = c.insert_reserved-same.new.self.slots in
    let same : c.insert_reserved-same.result ≡ c.args.key = c.insert_reserved-same.ensures.key ∙ c.remove-field.ensures.key_is_next in
    let others : (other : ℕ) → other ≢ c.args.key → shown new other ≡ shown slots other =
    λ other ne. c.insert_reserved-same.ensures.updates.others other (λ e. ne (e ∙ same)) ∙ c.remove-field.ensures.updates.others other ne in
    goals_same slots new c.args.key others c.self.inside.goals.items c.self.invariant _ _ c.remove-field.ensures.value (ap (shown new) (sym same) ∙ c.insert_reserved-same.ensures.updates.changed) refl
