use Rattle.std.proofs.Common.{◌≡◌, inl, inr, List, [], ◌∷◌, ◌++◌, sym, subst, arith}
use Rattle.std.specs.List.{Contains}
use Rattle.std.proofs.lemmas.Grind.{common_steps}
use Rattle.std.proofs.lemmas.List.Elements.{Contains-push, Contains-append_left, Contains-push_cases}
use Rattle.fleet_field.specs.Field.{Aim}
use Rattle.fleet_field.specs.inside.Uses.{HasGoal}
use Rattle.fleet_field.proofs.Uses.{filled_step, still_there, at_none, filled_none}
use Rattle.fleet_field.proofs.holds.put_all.Goals as goal

pub loop-field-preserved : goal.loop-field-preserved
loop-field-preserved g c =
    let i = c.loop-field.invariant in
    let rest = c.pop.new.self.items in
    let e : c.loop-field.fields.items ≡ rest ++ c.in-Some.field ∷ [] = c.in-Some.ensures.items in
    let here : Contains c.loop-field.fields.items c.in-Some.field = subst (λ (xs : List Aim). Contains xs c.in-Some.field) (sym e) (Contains-push rest c.in-Some.field) in
    record {
      filled = filled_step c.args.fields.items c.in-Some.field c.args.held.now.slots c.loop-field.held.slots c.put.new.held.slots (i.within c.in-Some.field here) i.filled c.put.ensures.filled;
      room = omega (arith, i.room, c.put.ensures.len, c.put.ensures.capacity, c.in-Some.ensures.cases);
      there = λ f within. elim (i.there f within) [
        | inl has ↦ inl (still_there (c.in-Some.field ∷ []) c.loop-field.held.slots c.put.new.held.slots f.goal c.put.ensures.filled has)
        | inr left ↦ elim (Contains-push_cases rest c.in-Some.field f (subst (λ (xs : List Aim). Contains xs f) e left)) [
          | inl r ↦ inr r
          | inr same ↦ inl (subst (λ (x : Aim). HasGoal c.put.new.held.slots x.goal) same c.put.ensures.there)
        ]
      ];
      within = λ f r. i.within f (subst (λ (xs : List Aim). Contains xs f) (sym e) (Contains-append_left rest (c.in-Some.field ∷ []) f r));
    }

pub returns-clause-there : goal.returns-clause-there
returns-clause-there g c = λ f within.
    elim (c.loop-field.invariant.there f within) [
      | inl has ↦ has
      | inr left ↦ (
          let none = at_none c.pop.result _ _ c.in_default.not-Some c.pop.ensures.cases in
          absurd (first_of (omega (arith, none.0, left.1), grind (arith, common_steps, none.0, left.1))))
    ]

pub loop-field-init : goal.loop-field-init
loop-field-init g c =
    record {
      filled = filled_none c.args.fields.items c.args.held.now.slots c.requires.once;
      room = c.requires.room;
      there = λ f within. inr within;
      within = λ f within. within;
    }

pub put-requires-clause-room : goal.put-requires-clause-room
put-requires-clause-room g c = omega (arith, c.loop-field.invariant.room, c.in-Some.ensures.cases)

pub put-requires-clause-once : goal.put-requires-clause-once
put-requires-clause-once g c = c.loop-field.invariant.filled.once

pub loop-field-smaller : goal.loop-field-smaller
loop-field-smaller g c = omega (arith, c.in-Some.ensures.cases)

pub returns-clause-filled : goal.returns-clause-filled
returns-clause-filled g c = c.loop-field.invariant.filled
