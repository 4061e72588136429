-- How robots' costs go on from one time to the next.
use Rattle.std.proofs.Common.{◌≡◌, ◌≢◌, ℕ, ◌+◌, ◌-◌, ◌<◌, ◌≤◌, ◌⊎◌, inl, inr, List, [], ◌∷◌, ◌++◌, length, slice_index, sym, subst, ◌∙◌, ap, arith}
use Rattle.std.proofs.lemmas.Bool.{cases_eq}
use Rattle.std.proofs.lemmas.List.{get_or_append_left}
use Rattle.fleet_plans.specs.Valid.{place_at}
use Rattle.fleet_plans.specs.Costs.{IsMove, IsCostBy, AreCostsBy, IsNoted}

module _ (places : List (List ℕ)) (time r : ℕ) (early : 1 ≤ time) where
  before : time - 1 + 1 ≡ time
  before = omega (arith, early)

  pub cost_more : (old new : ℕ) → IsCostBy places (time - 1) r old → IsNoted (place_at places (time - 1)) (place_at places time) time r old new
      → IsCostBy places (time + 1 - 1) r new
  cost_more old new was (inl stayed) = record {
    within = omega (arith, was.within, stayed.1);
    moved = subst (λ (c : ℕ). (c ≡ 0) ⊎ ((t : ℕ) × (c ≡ t + 1) × IsMove places r t)) (sym stayed.1) was.moved;
    rests = λ t from less. elim (cases_eq t (time - 1)) [
      | inl same ↦
          subst (λ (u : ℕ). slice_index (place_at places (u + 1)) r ≡ slice_index (place_at places u) r) (sym same)
          (subst (λ (v : ℕ). slice_index (place_at places v) r ≡ slice_index (place_at places (time - 1)) r) (sym before) stayed.0)
      | inr other ↦ was.rests t (omega (arith, from, stayed.1)) (omega (arith, less, other, early))
    ];
  }
  cost_more old new was (inr moved) = record {
    within = omega (arith, moved.1);
    moved = inr (
      time - 1,
      omega (arith, moved.1, early),
      subst (λ (v : ℕ). slice_index (place_at places v) r ≢ slice_index (place_at places (time - 1)) r) (sym before) moved.0,
    );
    rests = λ t from less. absurd (omega (arith, from, less, moved.1, early));
  }

pub costs_more : (places : List (List ℕ)) (time : ℕ) (old new : List ℕ) → 1 ≤ time → AreCostsBy places (time - 1) old → length new ≡ length old
    → ((r : ℕ) → r < length old → IsNoted (place_at places (time - 1)) (place_at places time) time r (slice_index old r) (slice_index new r))
    → AreCostsBy places (time + 1 - 1) new
costs_more places time old new early was same noted = record {
  each_one = same ∙ was.each_one;
  cost = λ r less.
      let inner : r < length old = omega (arith, less, same) in
      cost_more places time r early (slice_index old r) (slice_index new r) (was.cost r inner) (noted r inner);
}

-- one more placement leaves the costs up to an earlier time
pub costs_along : (places : List (List ℕ)) (place : List ℕ) (n : ℕ) (costs : List ℕ) → n < length places → AreCostsBy places n costs → AreCostsBy (places ++ place ∷ []) n costs
costs_along places place n costs inner was =
    let same : (t : ℕ) → t < length places → place_at (places ++ place ∷ []) t ≡ place_at places t = λ t less. get_or_append_left places (place ∷ []) [] t less in
    record {
      each_one = was.each_one ∙ ap (λ (p : List ℕ). length p) (sym (same 0 (omega (arith, inner))));
      cost = λ r less.
          let at = was.cost r less in
          record {
            within = at.within;
            moved = elim at.moved [
              | inl never ↦ inl never
              | inr p ↦
                  let early : p.0 + 1 < length places = omega (arith, p.1, at.within, inner) in
                  inr (
                    p.0,
                    p.1,
                    subst (λ (q : List ℕ). slice_index q r ≢ slice_index (place_at (places ++ place ∷ []) p.0) r) (sym (same (p.0 + 1) early))
                        (subst (λ (q : List ℕ). slice_index (place_at places (p.0 + 1)) r ≢ slice_index q r) (sym (same p.0 (omega (arith, early)))) p.2),
                  )
            ];
            rests = λ t from below.
                ap (λ (q : List ℕ). slice_index q r) (same (t + 1) (omega (arith, below, inner)))
                ∙ (at.rests t from below ∙ ap (λ (q : List ℕ). slice_index q r) (sym (same t (omega (arith, below, inner)))));
          };
    }
