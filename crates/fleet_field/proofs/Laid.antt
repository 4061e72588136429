-- The labels before a search, row by row.
use Rattle.std.proofs.Common.{◌≡◌, ◌≢◌, ℕ, Bool, cond, ◌+◌, ◌-◌, ◌*◌, ◌<◌, ◌⊎◌, inl, inr, List, length, set, slice_index, refl, sym, ap, subst, ◌∙◌, arith}
use Rattle.std.proofs.lemmas.Bool.{cases_lt, cases_eq, ne_eqb}
use Rattle.std.proofs.lemmas.List.{length-set}
use Rattle.std.proofs.lemmas.Nat.{div-mul-add, mod-mul-add}
use Rattle.fleet_grid.specs.Padded.{place}
use Rattle.fleet_grid.proofs.Places.{place_inside}
use Rattle.fleet_field.specs.inside.Labels.{AreUnseen}
use Rattle.fleet_field.specs.inside.Laid.{unseen_label, HasLabels, AreLaid}
use Rattle.fleet_field.proofs.Visit.{read}

pub row_none : (ways : List ℕ) (start first : ℕ) (xs : List ℕ) → HasLabels ways start first 0 xs xs
row_none ways start first xs = record { len = refl; below = λ v b. refl; each = λ k b. absurd (omega (arith, b)); rest = λ v b. refl }

pub row_more : (ways : List ℕ) (start first n : ℕ) (xs ys : List ℕ) (x : ℕ) → HasLabels ways start first n xs ys → start + n < length ys → x ≡ unseen_label (slice_index ways (first + n)) → HasLabels ways start first (n + 1) xs (set ys (start + n) x)
row_more ways start first n xs ys x h inside last = record {
  len = length-set ys (start + n) x ∙ h.len;
  below = λ v b. elim (read ys (start + n) x v inside) [
    | inl e ↦ absurd (omega (arith, e.0, b))
    | inr e ↦ e.1 ∙ h.below v b
  ];
  each = λ k b. elim (read ys (start + n) x (start + k) inside) [
    | inl e ↦ (
        let is : n ≡ k = omega (arith, e.0) in
        e.1 ∙ (last ∙ ap (λ (i : ℕ). unseen_label (slice_index ways (first + i))) is))
    | inr e ↦ (
        let ne : k ≡ n → ⊥ = (λ w. e.0 (ap (λ (i : ℕ). start + i) w)) in
        e.1 ∙ h.each k (omega (arith, b, ne)))
  ];
  rest = λ v b. elim (read ys (start + n) x v inside) [
    | inl e ↦ absurd (omega (arith, e.0, b))
    | inr e ↦ e.1 ∙ h.rest v (omega (arith, b))
  ];
}

-- the label that is written, by a test of the ways
pub label_none : (ways : ℕ) → ways ≡ 0 → 64 ≡ unseen_label ways
label_none ways e = ap unseen_label (sym e)

pub label_some : (ways : ℕ) → ways ≢ 0 → 0 ≡ unseen_label ways
label_some ways ne = sym (ap (λ (b : Bool). cond b 64 0) (ne_eqb ways 0 ne))

place_at : (w s q r : ℕ) → r < w → place w s (q * w + r) ≡ (q + 1) * s + r
place_at w s q r h = rw (div-mul-add q w r h, mod-mul-add q w r h) refl

-- at first all places are shut
pub none_laid : (w s : ℕ) (ways xs : List ℕ) → ((v : ℕ) → v < length xs → slice_index xs v ≡ 64) → AreLaid 0 w s ways xs
none_laid w s ways xs shut = record { cells = λ cell b. absurd (omega (arith, b)); each = λ v b. inl (shut v b) }

-- with one row more
module _ (w s q : ℕ) (ways xs ys : List ℕ) (wide : 0 < w) (apart : w < s) (l : AreLaid q w s ways xs) (h : HasLabels ways ((q + 1) * s) (q * w) w xs ys) where
  more : (q + 1) * w ≡ q * w + w
  more = omega arith

  cells : (cell : ℕ) → cell < (q + 1) * w → slice_index ways cell ≢ 0 → slice_index ys (place w s cell) ≡ 0
  cells cell b some = elim (cases_lt cell (q * w)) [
    | inl before ↦ (
        let p = place_inside q w s cell wide apart before in
        let longer : (q + 2) * s ≡ (q + 1) * s + s = omega arith in
        h.below (place w s cell) (omega (arith, p.1, longer)) ∙ l.cells cell before some)
    | inr past ↦ (
        let k = cell - q * w in
        let is : cell ≡ q * w + k = omega (arith, past) in
        let small : k < w = omega (arith, b, more, past) in
        let at : place w s cell ≡ (q + 1) * s + k = ap (place w s) is ∙ place_at w s q k small in
        ap (slice_index ys) at ∙ (h.each k small ∙ (ap (λ (i : ℕ). unseen_label (slice_index ways i)) (sym is) ∙ sym (label_some (slice_index ways cell) some))))
  ]

  -- what was as it should be, and stays
  stays : (v : ℕ) → v < length ys → slice_index ys v ≡ slice_index xs v
      → (slice_index ys v ≡ 64) ⊎ ((slice_index ys v ≡ 0) × (cell : ℕ) × (cell < (q + 1) * w) × (v ≡ place w s cell) × (slice_index ways cell ≢ 0))
  stays v b e = elim (l.each v (omega (arith, b, h.len))) [
    | inl shut ↦ inl (e ∙ shut)
    | inr o ↦ inr (e ∙ o.0, o.1, omega (arith, o.2, more), o.3, o.4)
  ]

  fresh : (k : ℕ) → k < w → slice_index ys ((q + 1) * s + k) ≡ unseen_label (slice_index ways (q * w + k))
      → (slice_index ys ((q + 1) * s + k) ≡ 64) ⊎ ((slice_index ys ((q + 1) * s + k) ≡ 0) × (cell : ℕ) × (cell < (q + 1) * w) × ((q + 1) * s + k ≡ place w s cell) × (slice_index ways cell ≢ 0))
  fresh k b e = elim (cases_eq (slice_index ways (q * w + k)) 0) [
    | inl none ↦ inl (e ∙ sym (label_none (slice_index ways (q * w + k)) none))
    | inr some ↦ inr (e ∙ sym (label_some (slice_index ways (q * w + k)) some), q * w + k, omega (arith, b, more), sym (place_at w s q k b), some)
  ]

  each : (v : ℕ) → v < length ys
      → (slice_index ys v ≡ 64) ⊎ ((slice_index ys v ≡ 0) × (cell : ℕ) × (cell < (q + 1) * w) × (v ≡ place w s cell) × (slice_index ways cell ≢ 0))
  each v b = elim (cases_lt v ((q + 1) * s)) [
    | inl before ↦ stays v b (h.below v before)
    | inr past ↦ elim (cases_lt v ((q + 1) * s + w)) [
      | inr after ↦ stays v b (h.rest v after)
      | inl within ↦ (
          let k = v - (q + 1) * s in
          let is : (q + 1) * s + k ≡ v = omega (arith, past) in
          let small : k < w = omega (arith, past, within) in
          subst (λ (u : ℕ). (slice_index ys u ≡ 64) ⊎ ((slice_index ys u ≡ 0) × (cell : ℕ) × (cell < (q + 1) * w) × (u ≡ place w s cell) × (slice_index ways cell ≢ 0))) is (fresh k small (h.each k small)))
    ]
  ]

  pub rows_laid : AreLaid (q + 1) w s ways ys
  rows_laid = record { cells = cells; each = each }

pub all_laid : (h w s : ℕ) (ways xs : List ℕ) → length xs ≡ (h + 2) * s → AreLaid h w s ways xs → AreUnseen h w s ways xs
all_laid h w s ways xs len l = record { len = len; cells = l.cells; each = l.each }
