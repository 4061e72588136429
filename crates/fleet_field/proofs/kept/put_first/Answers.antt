use Rattle.std.proofs.Common.{◌≡◌, ℕ, ◌-◌, ◌⊎◌, inl, inr, List, [], ◌∷◌, ◌++◌, take, vec_len, sym, subst, arith}
use Rattle.std.specs.List.{All, Contains}
use Rattle.std.proofs.lemmas.Grind.{common_steps}
use Rattle.std.proofs.lemmas.List.Elements.{All-cons, All-weaker, All-contains_itself, Contains-push, Contains-append_left}
use Rattle.fleet_field.specs.Field.{Aim}
use Rattle.fleet_field.specs.FieldCache.{HasKept}
use Rattle.fleet_field.proofs.Fronted.{put_within, put_there}
use Rattle.fleet_field.proofs.Uses.{at_none}
use Rattle.fleet_field.proofs.kept.put_first.Goals as goal

pub loop-field-init : goal.loop-field-init
loop-field-init g c =
    let P = λ (f : Aim). Contains c.args.fields.items f ⊎ Contains c.args.kept.now.items f in
    record {
      room = c.requires;
      among = All-weaker (Contains c.args.kept.now.items) P (λ f there. inr there) c.args.kept.now.items (All-contains_itself c.args.kept.now.items);
      subset = λ f there. there;
      fewer = omega arith;
      within = λ d n other e h. subst (λ (k : ℕ). HasKept (take k c.args.kept.now.items) other) (omega (arith, e)) h;
      first = λ d f e there. inl there;
    }

pub push_front_reserved-requires : goal.push_front_reserved-requires
push_front_reserved-requires g c = omega (arith, c.loop-field.invariant.room, c.in-Some.ensures.cases)

pub loop-field-smaller : goal.loop-field-smaller
loop-field-smaller g c = omega (arith, c.in-Some.ensures.cases)

pub loop-field-preserved : goal.loop-field-preserved
loop-field-preserved g c =
    let i = c.loop-field.invariant in
    let left = c.pop.new.self.items in
    let field = c.in-Some.field in
    let new = c.push_front_reserved.new.self.items in
    let items : new ≡ field ∷ c.loop-field.kept.items = c.push_front_reserved.ensures.items in
    let e : c.loop-field.fields.items ≡ left ++ field ∷ [] = c.in-Some.ensures.items in
    let here : Contains c.loop-field.fields.items field = subst (λ (xs : List Aim). Contains xs field) (sym e) (Contains-push left field) in
    let P = λ (f : Aim). Contains c.args.fields.items f ⊎ Contains c.args.kept.now.items f in
    record {
      room = omega (arith, i.room, c.in-Some.ensures.cases, c.push_front_reserved.ensures.len, c.push_front_reserved.ensures.room);
      among = subst (λ (xs : List Aim). All P xs) (sym items) (All-cons P field c.loop-field.kept.items (inl (i.subset field here)) i.among);
      subset = λ f r. i.subset f (subst (λ (xs : List Aim). Contains xs f) (sym e) (Contains-append_left left (field ∷ []) f r));
      fewer = omega (arith, i.fewer, c.in-Some.ensures.cases);
      within = λ d n other is h.
          put_within field c.loop-field.kept.items new items n (d - 1) d other (omega (arith, is, i.fewer, c.in-Some.ensures.cases))
          (i.within (d - 1) n other (omega (arith, is, i.fewer, c.in-Some.ensures.cases)) h);
      first = λ d f is there.
          put_there field c.loop-field.kept.items new items (d - 1) d c.loop-field.fields.items left f (omega (arith, is, i.fewer, c.in-Some.ensures.cases)) e
          (i.first (d - 1) f (omega (arith, is, i.fewer, c.in-Some.ensures.cases)) there);
    }

pub returns-clause-among : goal.returns-clause-among
returns-clause-among g c = c.loop-field.invariant.among

pub returns-clause-within : goal.returns-clause-within
returns-clause-within g c = λ n other h.
    let none = at_none c.pop.result _ _ c.in_default.not-Some c.pop.ensures.cases in
    c.loop-field.invariant.within (vec_len c.args.fields) n other (omega (arith, none.0)) h

pub returns-clause-first : goal.returns-clause-first
returns-clause-first g c = λ f there.
    let none = at_none c.pop.result _ _ c.in_default.not-Some c.pop.ensures.cases in
    elim (c.loop-field.invariant.first (vec_len c.args.fields) f (omega (arith, none.0)) there) [
      | inl left ↦ absurd (first_of (omega (arith, none.0, left.1), grind (arith, common_steps, none.0, left.1)))
      | inr has ↦ has
    ]
