use Rattle.std.proofs.Common.{◌≡◌, ◌<◌, ◌≤◌, ℕ, arith, ⊎_elim, sym, ap, ◌∙◌, get_or, ◌⊎◌}
use Rattle.std.proofs.lemmas.Bool.{cases_lt}
use Rattle.std.proofs.lemmas.Option.{get_or_from_slice_get}
use Rattle.fleet_office.specs.Views.{core}
use Rattle.fleet_office.proofs.Places.{at_map, within}
use Rattle.fleet_office.proofs.homing.twice.Goals as goal

pub returns-in-Some-clause-some : goal.returns-in-Some-clause-some
returns-in-Some-clause-some g c =
    let e = c.in-Some.ensures.some in
    let cs = c.args.clients.now in
    record {
      first = c.loop-k.k;
      second = c.in-Some._place;
      apart = omega (arith, e.0);
      known = e.1;
      one = λ x at. ap (λ y. y.number) (sym (get_or_from_slice_get cs c.loop-k.k x c.index-clients-k.result at) ∙ sym c.index-clients-k.is) ∙ sym c.number-number.ensures;
      other = e.2;
    }

pub loop-k-preserved : goal.loop-k-preserved
loop-k-preserved g c = λ i j x y less more at there.
    let cs = c.args.clients.now in
    ⊎_elim
    (λ (h : i < c.loop-k.k). c.loop-k.invariant i j x y h more at there)
    (λ (h : c.loop-k.k ≤ i).
    let ik : i ≡ c.loop-k.k = omega arith in
    λ same. c.in_default.ensures.none j y (omega arith) there
    (same ∙ ap (λ z. z.number) (sym (get_or_from_slice_get cs i x c.index-clients-k.result at)) ∙ ap (λ m. (get_or cs m c.index-clients-k.result).number) ik ∙ ap (λ z. z.number) (sym c.index-clients-k.is) ∙ sym c.number-number.ensures))
    (cases_lt i c.loop-k.k)

three : (i j : ℕ) → (i < j) ⊎ ((j < i) ⊎ (i ≡ j))
three i j = grind arith

pub returns-clause-none : goal.returns-clause-none
returns-clause-none g c = λ i j x y at there same.
    let cs = c.args.clients.now in
    let a = at_map core cs i x at in
    let b = at_map core cs j y there in
    let ab : a.0.number ≡ b.0.number = ap (λ z. z.number) a.2 ∙ same ∙ sym (ap (λ z. z.number) b.2) in
    ⊎_elim
    (λ (h : i < j). absurd (c.loop-k.invariant i j a.0 b.0 (let w = within cs i a.0 a.1 in omega arith) h a.1 b.1 (sym ab)))
    (⊎_elim
    (λ (h : j < i). absurd (c.loop-k.invariant j i b.0 a.0 (let w = within cs j b.0 b.1 in omega arith) h b.1 a.1 ab))
    (λ (h : i ≡ j). h))
    (three i j)
