use Rattle.std.proofs.Common.{◌≡◌, ◌≢◌, ℕ, ◌+◌, List, Option, IsSome, refl, sym, ap, subst, ◌∙◌}
use Rattle.fleet_field.specs.Field.{Aim, IsField}
use Rattle.fleet_field.specs.declared.store.Held.{Held}
use Rattle.fleet_field.specs.Store.{shown, Serves, HasUsesLeft, IsHold, IsOnce}
use Rattle.fleet_field.proofs.Shares.{hold_more, hold_new, once_new, once_same, serves_by, fewer_at}
use Rattle.fleet_field.proofs.Together.{on_err}
use Rattle.fleet_field.proofs.store.FieldStore.hold_from.Goals as goal

pub returns-in-Some-clause-held : goal.returns-in-Some-clause-held
returns-in-Some-clause-held g c =
    let at = c.in-Some.ensures in
    subst (λ (s : List (Option (Held Aim))). IsHold c.args.grid.now c.args.goal s c.use_again.new.held.slots c.in-Some.key) c.self.view_is
    (hold_more c.self.inside.held.slots c.use_again.new.held.slots c.in-Some.key c.use_again.ensures.others c.args.grid.now c.args.goal c.self.invariant at.0 at.1 at.2 (c.use_again.ensures.more at.0 at.1))

pub returns-in-Some-clause-serves : goal.returns-in-Some-clause-serves
returns-in-Some-clause-serves g c =
    let at = c.in-Some.ensures in
    let serves : Serves c.args.grid.now c.self.inside.held.slots = subst (Serves c.args.grid.now) (sym c.self.view_is) c.requires.serves in
    serves_by c.self.inside.held.slots c.use_again.new.held.slots c.in-Some.key c.use_again.ensures.others c.args.grid.now serves (record at.0 { uses = at.0.uses + 1 }) (c.use_again.ensures.more at.0 at.1) (serves c.in-Some.key at.0 at.1)

pub invariant_of-self-2 : goal.invariant_of-self-2
invariant_of-self-2 g c =
    let same : c.reserve.new.self.slots ≡ c.self.inside.held.slots = c.reserve.ensures.slots in
    let others : (other : ℕ) → other ≢ c.insert_reserved.result → shown c.insert_reserved.new.self.slots other ≡ shown c.self.inside.held.slots other = λ other ne. c.insert_reserved.ensures.updates.others other ne ∙ ap (λ s. shown s other) same in
    once_new c.self.inside.held.slots c.insert_reserved.new.self.slots c.insert_reserved.result others c.self.invariant (record { field = c.in_ok-field.field; uses = 1 }) c.insert_reserved.ensures.updates.changed
    (λ k at e same. c.in_default.ensures k at e (same ∙ c.in_ok-field.ensures.field.goal))

pub returns-clause-held : goal.returns-clause-held
returns-clause-held g c =
    let same : c.reserve.new.self.slots ≡ c.self.inside.held.slots = c.reserve.ensures.slots in
    let others : (other : ℕ) → other ≢ c.insert_reserved.result → shown c.insert_reserved.new.self.slots other ≡ shown c.self.inside.held.slots other = λ other ne. c.insert_reserved.ensures.updates.others other ne ∙ ap (λ s. shown s other) same in
    subst (λ (s : List (Option (Held Aim))). IsHold c.args.grid.now c.args.goal s c.insert_reserved.new.self.slots c.insert_reserved.result) c.self.view_is
    (hold_new c.self.inside.held.slots c.insert_reserved.new.self.slots c.insert_reserved.result others c.args.grid.now c.args.goal c.in_default.ensures (sym (ap (λ s. shown s c.insert_reserved.result) same) ∙ c.insert_reserved.ensures.was_vacant)
    (record { field = c.in_ok-field.field; uses = 1 }) c.insert_reserved.ensures.updates.changed c.in_ok-field.ensures.field refl)

pub returns-clause-serves : goal.returns-clause-serves
returns-clause-serves g c =
    let same : c.reserve.new.self.slots ≡ c.self.inside.held.slots = c.reserve.ensures.slots in
    let others : (other : ℕ) → other ≢ c.insert_reserved.result → shown c.insert_reserved.new.self.slots other ≡ shown c.self.inside.held.slots other = λ other ne. c.insert_reserved.ensures.updates.others other ne ∙ ap (λ s. shown s other) same in
    serves_by c.self.inside.held.slots c.insert_reserved.new.self.slots c.insert_reserved.result others c.args.grid.now (subst (Serves c.args.grid.now) (sym c.self.view_is) c.requires.serves)
    (record { field = c.in_ok-field.field; uses = 1 }) c.insert_reserved.ensures.updates.changed (subst (λ (x : ℕ). IsField c.args.grid.now x c.in_ok-field.field) (sym c.in_ok-field.ensures.field.goal) c.in_ok-field.ensures.field)

pub use_again-requires-clause-held : goal.use_again-requires-clause-held
use_again-requires-clause-held g c = subst IsSome (sym c.in-Some.ensures.1) refl

pub use_again-requires-clause-fewer : goal.use_again-requires-clause-fewer
use_again-requires-clause-fewer g c =
    let at = c.in-Some.ensures in
    fewer_at c.self.inside.held.slots c.in-Some.key c.args.goal at.0 at.1 at.2 (subst (λ (s : List (Option (Held Aim))). HasUsesLeft s c.args.goal 1) (sym c.self.view_is) c.requires.fewer)

pub invariant_of-self : goal.invariant_of-self
invariant_of-self g c =
    let at = c.in-Some.ensures in
    once_same c.self.inside.held.slots c.use_again.new.held.slots c.in-Some.key c.use_again.ensures.others c.self.invariant at.0 (record at.0 { uses = at.0.uses + 1 }) at.1 (c.use_again.ensures.more at.0 at.1) refl

pub returns-in-Some-clause-keeps : goal.returns-in-Some-clause-keeps
returns-in-Some-clause-keeps g c = c.requires.keeps

pub returns-in-Some-clause-refused : goal.returns-in-Some-clause-refused
returns-in-Some-clause-refused g c = tt

pub invariant_of-self-in_err-reserve : goal.invariant_of-self-in_err-reserve
invariant_of-self-in_err-reserve g c = subst IsOnce (sym c.reserve.ensures.slots) c.self.invariant

pub returns-in_err-reserve-clause-serves : goal.returns-in_err-reserve-clause-serves
returns-in_err-reserve-clause-serves g c = subst (Serves c.args.grid.now) (sym (c.reserve.ensures.slots ∙ c.self.view_is)) c.requires.serves

pub returns-in_err-reserve-clause-keeps : goal.returns-in_err-reserve-clause-keeps
returns-in_err-reserve-clause-keeps g c = c.requires.keeps

pub returns-in_err-reserve-clause-refused : goal.returns-in_err-reserve-clause-refused
returns-in_err-reserve-clause-refused g c =
    on_err (c.reserve.new.self.slots ≡ c.args.self.now) c.from_residual.result (c.reserve.ensures.slots ∙ c.self.view_is)

pub field-requires-clause-floor : goal.field-requires-clause-floor
field-requires-clause-floor g c = c.requires.floor

pub field-requires-clause-keeps : goal.field-requires-clause-keeps
field-requires-clause-keeps g c = c.requires.keeps

pub invariant_of-self-in_err-field : goal.invariant_of-self-in_err-field
invariant_of-self-in_err-field g c = subst IsOnce (sym c.reserve.ensures.slots) c.self.invariant

pub returns-in_err-field-clause-serves : goal.returns-in_err-field-clause-serves
returns-in_err-field-clause-serves g c = subst (Serves c.args.grid.now) (sym (c.reserve.ensures.slots ∙ c.self.view_is)) c.requires.serves

pub returns-in_err-field-clause-keeps : goal.returns-in_err-field-clause-keeps
returns-in_err-field-clause-keeps g c = c.field.ensures.keeps

pub returns-in_err-field-clause-refused : goal.returns-in_err-field-clause-refused
returns-in_err-field-clause-refused g c =
    on_err (c.reserve.new.self.slots ≡ c.args.self.now) c.from_residual-in_err-field.result (c.reserve.ensures.slots ∙ c.self.view_is)

pub insert_reserved-requires : goal.insert_reserved-requires
insert_reserved-requires g c = c.in_ok-reserve.ensures.room

pub returns-clause-keeps : goal.returns-clause-keeps
returns-clause-keeps g c = c.field.ensures.keeps

pub returns-clause-refused : goal.returns-clause-refused
returns-clause-refused g c = tt
