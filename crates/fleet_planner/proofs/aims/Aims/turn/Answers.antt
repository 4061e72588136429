use Rattle.std.proofs.Common.{◌≡◌, ℕ, List, Option, length, OnOk, OnErr, sym, ap, subst, ◌∙◌, arith}
use Rattle.std.proofs.lemmas.List.{length-map}
use Rattle.fleet_field.specs.Field.{Aim}
use Rattle.fleet_planner.specs.Aims.{goals_of, AreOn}
use Rattle.fleet_planner.specs.Keys.{field_at, fields_of, AreOwn}
use Rattle.fleet_planner.specs.Turned.{turned, AreKnownTurns}
use Rattle.fleet_planner.proofs.Outcome.{written}
use Rattle.fleet_planner.proofs.aims.Aims.turn.Goals as goal

-- the keys are lent as they are

pub turn_to-requires : goal.turn_to-requires
turn_to-requires g c =
    let lent = c.deref_mut.ensures.value in
    let count : length c.args.self.now ≡ length c.deref_mut.result.now = ap (λ (aims : List (Option Aim)). length aims) (sym c.self.view_is) ∙ (length-map c.self.inside.keys.items (field_at c.self.inside.store) ∙ ap (λ (keys : List (Option ℕ)). length keys) (sym lent)) in
    let few = c.requires.few in
    let room = c.self.invariant.2 in
    let long = c.deref_mut.ensures.len in
    record {
      few = omega (arith, few, count);
      known = subst (λ (n : ℕ). AreKnownTurns n c.args.turns.now) count c.requires.known;
      floor = c.requires.floor;
      own = subst (AreOwn c.self.inside.store) (sym lent) c.self.invariant.0;
      on = subst (λ (keys : List (Option ℕ)). AreOn c.args.grid.now (fields_of c.self.inside.store keys)) (sym lent) (subst (AreOn c.args.grid.now) (sym c.self.view_is) c.requires.on);
      keeps = c.requires.keeps;
      empty = c.self.invariant.1;
      room = (let same = ap (λ (keys : List (Option ℕ)). length keys) lent in omega (arith, room, same));
    }

-- and written back

pub invariant_of-self : goal.invariant_of-self
invariant_of-self g c =
    let is = written c.turn_to.new.keys c.self.inside.keys.items c.self.inside.keys.len (c.turn_to.ensures.count ∙ c.deref_mut.ensures.len) in (
      subst (AreOwn c.turn_to.new.store) (sym is) c.turn_to.ensures.own,
      c.turn_to.ensures.empty,
      (let long = ap (λ (keys : List (Option ℕ)). length keys) is in
          let count = c.turn_to.ensures.count in
          let lent = ap (λ (keys : List (Option ℕ)). length keys) c.deref_mut.ensures.value in
          let was = c.self.invariant.2 in
          let room = c.turn_to.ensures.room in
          omega (arith, long, count, lent, was, room)),
    )

pub returns-clause-count : goal.returns-clause-count
returns-clause-count g c =
    let is = written c.turn_to.new.keys c.self.inside.keys.items c.self.inside.keys.len (c.turn_to.ensures.count ∙ c.deref_mut.ensures.len) in
    ap (λ (keys : List (Option ℕ)). length (fields_of c.turn_to.new.store keys)) is
    ∙ (length-map c.turn_to.new.keys (field_at c.turn_to.new.store)
    ∙ (c.turn_to.ensures.count
    ∙ (ap (λ (keys : List (Option ℕ)). length keys) c.deref_mut.ensures.value
    ∙ (sym (length-map c.self.inside.keys.items (field_at c.self.inside.store)) ∙ ap (λ (aims : List (Option Aim)). length aims) c.self.view_is))))

pub returns-clause-keeps : goal.returns-clause-keeps
returns-clause-keeps g c = c.turn_to.ensures.keeps

pub returns-clause-goals : goal.returns-clause-goals
returns-clause-goals g c =
    let is = written c.turn_to.new.keys c.self.inside.keys.items c.self.inside.keys.len (c.turn_to.ensures.count ∙ c.deref_mut.ensures.len) in
    let was = ap (fields_of c.self.inside.store) c.deref_mut.ensures.value ∙ c.self.view_is in
    subst (λ (aims : List (Option Aim)). OnOk c.turn_to.result (goals_of aims ≡ turned c.args.turns.now (goals_of c.args.self.now))) (ap (fields_of c.turn_to.new.store) (sym is))
    (subst (λ (aims : List (Option Aim)). OnOk c.turn_to.result (goals_of (fields_of c.turn_to.new.store c.turn_to.new.keys) ≡ turned c.args.turns.now (goals_of aims))) was c.turn_to.ensures.goals)

pub returns-clause-refused : goal.returns-clause-refused
returns-clause-refused g c =
    let is = written c.turn_to.new.keys c.self.inside.keys.items c.self.inside.keys.len (c.turn_to.ensures.count ∙ c.deref_mut.ensures.len) in
    let was = ap (fields_of c.self.inside.store) c.deref_mut.ensures.value ∙ c.self.view_is in
    subst (λ (aims : List (Option Aim)). OnErr c.turn_to.result (aims ≡ c.args.self.now)) (ap (fields_of c.turn_to.new.store) (sym is))
    (subst (λ (aims : List (Option Aim)). OnErr c.turn_to.result (fields_of c.turn_to.new.store c.turn_to.new.keys ≡ aims)) was c.turn_to.ensures.refused)

pub returns-clause-on : goal.returns-clause-on
returns-clause-on g c =
    subst (λ (keys : List (Option ℕ)). AreOn c.args.grid.now (fields_of c.turn_to.new.store keys)) (sym (written c.turn_to.new.keys c.self.inside.keys.items c.self.inside.keys.len (c.turn_to.ensures.count ∙ c.deref_mut.ensures.len))) c.turn_to.ensures.on
