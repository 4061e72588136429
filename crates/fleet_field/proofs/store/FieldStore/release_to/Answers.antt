-- One hold less, of a field that stays or goes to those that are kept.
use Rattle.std.proofs.Common.{◌≡◌, List, Option, Some, refl, sym, ap, subst, ◌∙◌}
use Rattle.fleet_field.specs.Field.{Aim}
use Rattle.fleet_field.specs.Store.{shown, IsRelease}
use Rattle.fleet_field.specs.declared.store.Held.{Held}
use Rattle.fleet_field.proofs.Shares.{once_same, once_less, released_more, released_last}
use Rattle.fleet_field.proofs.Cached.{keeps_put}
use Rattle.fleet_field.proofs.store.FieldStore.release_to.Goals as goal

pub invariant_of-self : goal.invariant_of-self
invariant_of-self g c =
    once_same c.self.inside.held.slots c.set_uses.new.self.slots c.args.key c.set_uses.ensures.others c.self.invariant _ _ c.index.ensures (c.set_uses.ensures.set _ c.index.ensures) refl

pub invariant_of-self-else-uses-gt1 : goal.invariant_of-self-else-uses-gt1
invariant_of-self-else-uses-gt1 g c =
    once_less c.self.inside.held.slots c.remove.new.self.slots c.args.key c.remove.ensures.updates.others c.self.invariant c.remove.ensures.updates.changed

pub returns-else-uses-gt1-clause-keeps : goal.returns-else-uses-gt1-clause-keeps
returns-else-uses-gt1-clause-keeps g c = λ m serves keeps.
    let was : shown c.args.self.now c.args.key ≡ Some _ = sym (ap (λ s. shown s c.args.key) c.self.view_is) ∙ c.remove.ensures.value in
    keeps_put m c.remove.result.field c.args.cache.now.kept c.put.new.self.kept c.put.ensures (serves c.args.key _ was) keeps

pub returns-then-uses-gt1-clause-released : goal.returns-then-uses-gt1-clause-released
returns-then-uses-gt1-clause-released g c =
    let new = c.set_uses.new.self.slots in
    subst (λ (s : List (Option (Held Aim))). IsRelease s new c.args.key) c.self.view_is
    (released_more c.self.inside.held.slots new c.args.key c.set_uses.ensures.others c.index.result.now c.index.ensures c.if-uses-gt1.true (c.set_uses.ensures.set _ c.index.ensures))

pub returns-else-uses-gt1-clause-released : goal.returns-else-uses-gt1-clause-released
returns-else-uses-gt1-clause-released g c =
    subst (λ (s : List (Option (Held Aim))). IsRelease s c.remove.new.self.slots c.args.key) c.self.view_is
    (released_last c.self.inside.held.slots c.remove.new.self.slots c.args.key c.remove.ensures.updates.others c.index.result.now c.index.ensures c.if-uses-gt1.false c.remove.ensures.updates.changed)
