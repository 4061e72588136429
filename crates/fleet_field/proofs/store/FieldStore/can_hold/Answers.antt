-- Whether the field of a goal can be used once more.
use Rattle.std.proofs.Common.{◌≡◌, ◌↔◌, Option, Some, List, IsTrue, ltb, true, refl, sym, ap, subst, ◌∙◌, arith}
use Rattle.std.proofs.lemmas.Bool.{ltb-true, lt-ltb}
use Rattle.fleet_field.specs.Field.{Aim}
use Rattle.fleet_field.specs.Store.{shown, HasUsesLeft}
use Rattle.fleet_field.specs.declared.store.Held.{Held}
use Rattle.fleet_field.proofs.Shares.{uses_left, none_left}
use Rattle.fleet_field.proofs.store.FieldStore.can_hold.Goals as goal

pub returns-in-Some : goal.returns-in-Some
returns-in-Some g c =
    let store = c.self.inside.held.slots in
    let held : Held Aim = c.index.result.now in
    let at = c.in-Some.ensures in
    let same : at.0 ≡ held = cc (c.index.ensures, at.1) in
    let here : shown store c.in-Some.key ≡ Some held = at.1 ∙ ap Some same in
    let aims = sym (ap (λ (h : Held Aim). h.field.goal) same) ∙ at.2 in
    subst (λ (s : List (Option (Held Aim))). IsTrue (ltb held.uses 4294967295) ↔ HasUsesLeft s c.args.goal 1) c.self.view_is (
      (λ yes. uses_left store c.in-Some.key c.args.goal held c.self.invariant here aims (ltb-true held.uses 4294967295 yes)),
      (λ left. let few = left c.in-Some.key held here aims in lt-ltb held.uses 4294967295 (omega (arith, few))),
    )

pub returns-in-None : goal.returns-in-None
returns-in-None g c =
    subst (λ (s : List (Option (Held Aim))). IsTrue true ↔ HasUsesLeft s c.args.goal 1) c.self.view_is (λ yes. none_left c.self.inside.held.slots c.args.goal c.in-None.ensures, λ left. refl)
