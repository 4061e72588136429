-- What one visit does to the search.
use Rattle.std.proofs.Common.{◌≡◌, ◌≢◌, ℕ, ◌+◌, ◌<◌, ◌≤◌, ◌⊎◌, inl, inr, List, [], ◌∷◌, ◌++◌, length, set, get_or, slice_index, refl, sym, ap, subst, ◌∙◌, arith}
use Rattle.std.proofs.lemmas.Bool.{cases_eq}
use Rattle.std.proofs.lemmas.List.{get_or-set_same, get_or-set_other, length-set}
use Rattle.std.proofs.lemmas.List.Elements.{Contains-append_left, Contains-push, Contains-push_cases}
use Rattle.std.specs.List.{Contains}
use Rattle.fleet_grid.specs.Padded.{IsOpen}
use Rattle.fleet_field.specs.inside.Search.{IsBeside, IsLink, Search}

-- a place after the write is the one that was written, or is as it was
pub read : (xs : List ℕ) (c y v : ℕ) → c < length xs → ((v ≡ c) × (get_or (set xs c y) v 0 ≡ y)) ⊎ ((v ≡ c → ⊥) × (get_or (set xs c y) v 0 ≡ get_or xs v 0))
read xs c y v below = elim (cases_eq v c) [
  | inl e ↦ inl (e, subst (λ (w : ℕ). get_or (set xs c y) w 0 ≡ y) (sym e) (get_or-set_same xs c y 0 below))
  | inr ne ↦ inr (ne, get_or-set_other xs c v y 0 ne)
]

module _ (dist : List ℕ) (stride level u c : ℕ) (front : List ℕ) (s : Search dist stride level (level + 1) front) (small : level + 1 < 4294967294)
    (inside : c < length dist) (side : IsBeside stride c u) (is_open : IsOpen dist u) (before : slice_index dist u ≡ level) (far : slice_index dist c ≡ 4294967295) where
  seen : (v : ℕ) → ((v ≡ c) × (get_or (set dist c (level + 1)) v 0 ≡ level + 1)) ⊎ ((v ≡ c → ⊥) × (get_or (set dist c (level + 1)) v 0 ≡ get_or dist v 0))
  seen v = read dist c (level + 1) v inside

  len : length (set dist c (level + 1)) ≡ length dist
  len = length-set dist c (level + 1)

  was_open : (v : ℕ) → IsOpen (set dist c (level + 1)) v → IsOpen dist v
  was_open v o = elim (seen v) [
    | inl p ↦ (let e : slice_index dist v ≡ 4294967295 = ap (slice_index dist) p.0 ∙ far in (omega (arith, o.0, len), λ w. omega (arith, e, w)))
    | inr p ↦ (omega (arith, o.0, len), λ w. o.1 (p.1 ∙ w))
  ]

  stays_open : (v : ℕ) → IsOpen dist v → IsOpen (set dist c (level + 1)) v
  stays_open v o = elim (seen v) [
    | inl p ↦ (omega (arith, o.0, len), λ w. omega (arith, p.1, w, small))
    | inr p ↦ (omega (arith, o.0, len), λ w. o.1 (sym p.1 ∙ w))
  ]

  was_link : (a b : ℕ) → IsLink (set dist c (level + 1)) stride a b → IsLink dist stride a b
  was_link a b l = record { from = was_open a l.from; to = was_open b l.to; side = l.side }

  stays_link : (a b : ℕ) → IsLink dist stride a b → IsLink (set dist c (level + 1)) stride a b
  stays_link a b l = record { from = stays_open a l.from; to = stays_open b l.to; side = l.side }

  link : IsLink dist stride c u
  link = record { from = (inside, λ w. omega (arith, far, w)); to = is_open; side = side }

  -- what is not far is not the place that was written
  same : (v d : ℕ) → slice_index dist v ≡ d → d < 4294967295 → get_or (set dist c (level + 1)) v 0 ≡ d
  same v d e less = elim (seen v) [
    | inl p ↦ (let f : slice_index dist v ≡ 4294967295 = ap (slice_index dist) p.0 ∙ far in absurd (omega (arith, e, f, less)))
    | inr p ↦ p.1 ∙ e
  ]

  back : (v d : ℕ) → IsOpen (set dist c (level + 1)) v → slice_index (set dist c (level + 1)) v ≢ 4294967295 → slice_index (set dist c (level + 1)) v ≡ d + 1
      → (w : ℕ) × IsLink (set dist c (level + 1)) stride v w × (slice_index (set dist c (level + 1)) w ≡ d)
  back v d o near e = elim (seen v) [
    | inl p ↦ (
        let is : level ≡ d = omega (arith, p.1, e) in
        (u, subst (λ (x : ℕ). IsLink (set dist c (level + 1)) stride x u) (sym p.0) (stays_link c u link), same u d (before ∙ is) (omega (arith, is, small))))
    | inr p ↦ (
        let old = s.back v d (was_open v o) (λ w. near (p.1 ∙ w)) (sym p.1 ∙ e) in
        let l = s.low v (was_open v o) (λ w. near (p.1 ∙ w)) in
        let e2 : slice_index dist v ≡ d + 1 = sym p.1 ∙ e in
        (old.0, stays_link v old.0 old.1, same old.0 d old.2 (omega (arith, l, e2, small))))
  ]

  low : (v : ℕ) → IsOpen (set dist c (level + 1)) v → slice_index (set dist c (level + 1)) v ≢ 4294967295 → slice_index (set dist c (level + 1)) v ≤ level + 1
  low v o near = elim (seen v) [
    | inl p ↦ omega (arith, p.1)
    | inr p ↦ (let l = s.low v (was_open v o) (λ w. near (p.1 ∙ w)) in omega (arith, l, p.1))
  ]

  onward : (a b : ℕ) → IsLink (set dist c (level + 1)) stride a b → slice_index (set dist c (level + 1)) a < level → slice_index (set dist c (level + 1)) b ≤ slice_index (set dist c (level + 1)) a + 1
  onward a b l less = elim (seen a) [
    | inl p ↦ absurd (omega (arith, p.1, less))
    | inr p ↦ (
        let old = s.onward a b (was_link a b l) (omega (arith, p.1, less)) in
        let at : get_or (set dist c (level + 1)) b 0 ≡ slice_index dist b = same b (slice_index dist b) refl (omega (arith, old, p.1, less, small)) in
        omega (arith, old, at, p.1))
  ]

  queued : (v : ℕ) → v < length (set dist c (level + 1)) → slice_index (set dist c (level + 1)) v ≡ level + 1 → Contains (front ++ c ∷ []) v
  queued v below e = elim (seen v) [
    | inl p ↦ subst (Contains (front ++ c ∷ [])) (sym p.0) (Contains-push front c)
    | inr p ↦ Contains-append_left front (c ∷ []) v (s.queued v (omega (arith, below, len)) (sym p.1 ∙ e))
  ]

  is_level : (v : ℕ) → Contains (front ++ c ∷ []) v → (v < length (set dist c (level + 1))) × (slice_index (set dist c (level + 1)) v ≡ level + 1)
  is_level v h = elim (Contains-push_cases front c v h) [
    | inl k ↦ (let old = s.is_level v k in (omega (arith, old.0, len), same v (level + 1) old.1 (omega (arith, small))))
    | inr e ↦ elim (seen v) [
      | inl p ↦ (omega (arith, e, inside, len), p.1)
      | inr p ↦ absurd (p.0 (sym e))
    ]
  ]

  pub searched : Search (set dist c (level + 1)) stride level (level + 1) (front ++ c ∷ [])
  searched = record {
    walled = λ v o. (let w = s.walled v (was_open v o) in (w.0, omega (arith, w.1, len)));
    back = back;
    low = low;
    onward = onward;
    queued = queued;
    is_level = is_level;
  }
