use Rattle.std.proofs.Common.{◌≡◌, ℕ, ◌<◌, List, Option, length, slice_index, refl, sym, subst, ◌∙◌}
use Rattle.std.specs.Prelude.{IfOk}
use Rattle.std.proofs.lemmas.Result.{on_err_weaker, IfOk-from_err}
use Rattle.fleet_grid.specs.Floor.{IsFloor}
use Rattle.fleet_field.specs.Field.{Aim}
use Rattle.fleet_field.specs.Several.{AreFields, AreHeld, HaveUsesLeft}
use Rattle.fleet_field.specs.Store.{Serves, IsOnce}
use Rattle.fleet_field.specs.declared.store.Held.{Held}
use Rattle.fleet_field.proofs.Missing.{floor_missing}
use Rattle.fleet_field.proofs.Together.{each_with, held_with, served_with, once_with, on_ok, on_err}
use Rattle.fleet_field.proofs.store.FieldStore.hold_all.Goals as goal

pub compasses-requires-after_bounds : goal.compasses-requires-after_bounds
compasses-requires-after_bounds g c κs bounds =
    subst (λ (xs : List ℕ). (i : ℕ) → i < length xs → IsFloor c.args.grid.now (slice_index xs i)) (sym c.deref.ensures.value)
    (floor_missing c.args.grid.now c.args.goals.now c.in_ok-missing.missing.items c.requires.floor c.in_ok-missing.ensures.only)

pub hold_with-requires-clause-once : goal.hold_with-requires-clause-once
hold_with-requires-clause-once g c = c.self.invariant

pub hold_with-requires-clause-each : goal.hold_with-requires-clause-each
hold_with-requires-clause-each g c =
    let made : AreFields c.args.grid.now c.in_ok-missing.missing.items c.in_ok-fresh.fresh.items = subst (λ (xs : List ℕ). AreFields c.args.grid.now xs c.in_ok-fresh.fresh.items) c.deref.ensures.value c.in_ok-fresh.ensures in
    each_with c.args.grid.now c.args.goals.now c.in_ok-missing.missing.items c.in_ok-fresh.fresh.items c.self.inside.held.slots made c.in_ok-missing.ensures.each

pub hold_with-requires-clause-fewer : goal.hold_with-requires-clause-fewer
hold_with-requires-clause-fewer g c = subst (λ (s : List (Option (Held Aim))). HaveUsesLeft s c.args.goals.now) (sym c.self.view_is) c.requires.fewer

pub invariant_of-self : goal.invariant_of-self
invariant_of-self g c =
    once_with c.args.goals.now c.in_ok-fresh.fresh.items c.self.inside.held.slots c.hold_with.new.held.slots (λ keys. keys.items) c.hold_with.result c.hold_with.ensures.used c.hold_with.ensures.refused c.self.invariant

pub returns-clause-held : goal.returns-clause-held
returns-clause-held g c =
    let made : AreFields c.args.grid.now c.in_ok-missing.missing.items c.in_ok-fresh.fresh.items = subst (λ (xs : List ℕ). AreFields c.args.grid.now xs c.in_ok-fresh.fresh.items) c.deref.ensures.value c.in_ok-fresh.ensures in
    subst (λ (s : List (Option (Held Aim))). IfOk c.hold_with.result (λ keys. AreHeld c.args.goals.now s keys.items c.hold_with.new.held.slots)) c.self.view_is
    (held_with c.args.grid.now c.args.goals.now c.in_ok-missing.missing.items c.in_ok-fresh.fresh.items c.self.inside.held.slots made c.in_ok-missing.ensures.only c.hold_with.new.held.slots (λ keys. keys.items) c.hold_with.result c.hold_with.ensures.used)

pub returns-clause-serves : goal.returns-clause-serves
returns-clause-serves g c =
    let made : AreFields c.args.grid.now c.in_ok-missing.missing.items c.in_ok-fresh.fresh.items = subst (λ (xs : List ℕ). AreFields c.args.grid.now xs c.in_ok-fresh.fresh.items) c.deref.ensures.value c.in_ok-fresh.ensures in
    served_with c.args.grid.now c.args.goals.now c.in_ok-missing.missing.items c.in_ok-fresh.fresh.items c.self.inside.held.slots made c.in_ok-missing.ensures.only c.hold_with.new.held.slots (λ keys. keys.items) c.hold_with.result
    c.hold_with.ensures.used c.hold_with.ensures.refused (subst (Serves c.args.grid.now) (sym c.self.view_is) c.requires.serves)

pub returns-clause-once : goal.returns-clause-once
returns-clause-once g c = on_ok (IsOnce c.hold_with.new.held.slots) c.hold_with.result (invariant_of-self g c)

pub returns-clause-refused : goal.returns-clause-refused
returns-clause-refused g c = on_err_weaker c.hold_with.result (λ same. same ∙ c.self.view_is) c.hold_with.ensures.refused

pub returns-in_err-missing-clause-held : goal.returns-in_err-missing-clause-held
returns-in_err-missing-clause-held g c = IfOk-from_err c.from_residual.result _ c.from_residual.ensures.0

pub returns-in_err-missing-clause-serves : goal.returns-in_err-missing-clause-serves
returns-in_err-missing-clause-serves g c = c.requires.serves

pub returns-in_err-missing-clause-once : goal.returns-in_err-missing-clause-once
returns-in_err-missing-clause-once g c = IfOk-from_err c.from_residual.result _ c.from_residual.ensures.0

pub returns-in_err-missing-clause-refused : goal.returns-in_err-missing-clause-refused
returns-in_err-missing-clause-refused g c = on_err (c.args.self.now ≡ c.args.self.now) c.from_residual.result refl

pub returns-in_err-fresh-clause-held : goal.returns-in_err-fresh-clause-held
returns-in_err-fresh-clause-held g c = IfOk-from_err c.from_residual-in_err-fresh.result _ c.from_residual-in_err-fresh.ensures.0

pub returns-in_err-fresh-clause-serves : goal.returns-in_err-fresh-clause-serves
returns-in_err-fresh-clause-serves g c = c.requires.serves

pub returns-in_err-fresh-clause-once : goal.returns-in_err-fresh-clause-once
returns-in_err-fresh-clause-once g c = IfOk-from_err c.from_residual-in_err-fresh.result _ c.from_residual-in_err-fresh.ensures.0

pub returns-in_err-fresh-clause-refused : goal.returns-in_err-fresh-clause-refused
returns-in_err-fresh-clause-refused g c = on_err (c.args.self.now ≡ c.args.self.now) c.from_residual-in_err-fresh.result refl
