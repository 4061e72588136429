-- Steps down the ways that lead nearer.
use Rattle.std.proofs.Common.{◌≡◌, ◌≢◌, ℕ, zero, suc, ◌+◌, ◌<◌, Bool, cond, List, slice_index, Option, Some, None, refl, ap, ◌∙◌, arith}
use Rattle.std.proofs.lemmas.Bool.{eq-eqb, ne_eqb}
use Rattle.fleet_field.specs.Compass.{next_cell, go_on, steps_down}

module _ (w : ℕ) (ways : List ℕ) (goal : ℕ) where
  pub step_found : (left taken cell : ℕ) → 0 < left → cell ≡ goal → steps_down w ways goal left taken cell ≡ Some taken
  step_found zero taken cell pos e = absurd (omega (arith, pos))
  step_found (suc left) taken cell pos e =
      ap (λ (b : Bool). cond b (Some taken) (go_on (next_cell w (slice_index ways cell) cell) (λ next. steps_down w ways goal left (taken + 1) next))) (eq-eqb cell goal e)

  pub step_stuck : (left taken cell : ℕ) → cell ≢ goal → next_cell w (slice_index ways cell) cell ≡ None → steps_down w ways goal left taken cell ≡ None
  step_stuck zero taken cell ne stuck = refl
  step_stuck (suc left) taken cell ne stuck =
      ap (λ (b : Bool). cond b (Some taken) (go_on (next_cell w (slice_index ways cell) cell) (λ next. steps_down w ways goal left (taken + 1) next))) (ne_eqb cell goal ne)
      ∙ ap (λ (o : Option ℕ). go_on o (λ next. steps_down w ways goal left (taken + 1) next)) stuck

  pub step_on : (left rest taken cell next : ℕ) → left ≡ rest + 1 → cell ≢ goal → next_cell w (slice_index ways cell) cell ≡ Some next → steps_down w ways goal left taken cell ≡ steps_down w ways goal rest (taken + 1) next
  step_on zero rest taken cell next e ne on = absurd (omega (arith, e))
  step_on (suc left) rest taken cell next e ne on =
      let same : left ≡ rest = omega (arith, e) in
      ap (λ (b : Bool). cond b (Some taken) (go_on (next_cell w (slice_index ways cell) cell) (λ n. steps_down w ways goal left (taken + 1) n))) (ne_eqb cell goal ne)
      ∙ (ap (λ (o : Option ℕ). go_on o (λ n. steps_down w ways goal left (taken + 1) n)) on ∙ ap (λ (k : ℕ). steps_down w ways goal k (taken + 1) next) same)
