-- The bytes after a search have the ways that lead nearer.
use Rattle.std.proofs.Common.{◌≡◌, ℕ, zero, suc, ◌+◌, ◌-◌, ◌*◌, ◌/◌, ◌%◌, ◌<◌, ◌≤◌, ◌⊎◌, ◌↔◌, inl, inr, List, length, set, slice_index, refl, sym, ap, subst, ◌∙◌, arith}
use Rattle.std.proofs.lemmas.Nat.{div-mul-add, mod-mul-add}
use Rattle.fleet_grid.specs.declared.dir.Dir.{Dir}
use Rattle.fleet_grid.specs.declared.dir.Dir.TheVariants.{North, East, South, West}
use Rattle.fleet_grid.specs.Padded.{place}
use Rattle.fleet_grid.specs.Ways.{IsWay}
use Rattle.fleet_field.specs.Compass.{IsNear, AreWaysAt}
use Rattle.fleet_field.specs.inside.Search.{IsBeside, AreLevels}
use Rattle.fleet_field.specs.inside.Labels.{toward, before, AreLabels, IsPointed, ArePointed}
use Rattle.fleet_field.proofs.Visit.{read}

-- the place of a cell in a row
place_at : (w s q r : ℕ) → r < w → place w s (q * w + r) ≡ (q + 1) * s + r
place_at w s q r h = rw (div-mul-add q w r h, mod-mul-add q w r h) refl

before_level : (r : ℕ) → ((r ≡ 0) × (before (r + 1) ≡ 3)) ⊎ ((0 < r) × (before (r + 1) ≡ r))
before_level zero = inl (refl, refl)
before_level (suc r) = inr (omega arith, grind arith)

-- a place next to another one
module _ (stride goal v n : ℕ) (dist labels : List ℕ) (levels : AreLevels dist stride goal) (are : AreLabels stride dist labels)
    (here : v < length dist) (there : n < length dist) (side : IsBeside stride v n) (back : IsBeside stride n v) where
  steps : slice_index dist v < 4294967294 → slice_index dist n < 4294967294 → (slice_index dist n ≤ slice_index dist v + 1) × (slice_index dist v ≤ slice_index dist n + 1)
  steps a b = (
    levels.onward v n (record { from = (here, λ w. omega (arith, w, a)); to = (there, λ w. omega (arith, w, b)); side = side }) (λ w. omega (arith, w, a)),
    levels.onward n v (record { from = (there, λ w. omega (arith, w, b)); to = (here, λ w. omega (arith, w, a)); side = back }) (λ w. omega (arith, w, b)),
  )

  nearer : slice_index labels n ≡ before (slice_index labels v) → IsNear dist v n
  nearer e = elim (are.each v here) [
    | inl p ↦ absurd (
        let is : slice_index labels n ≡ 255 = e ∙ ap before p.1 in
        elim (are.each n there) [ inl q ↦ omega (arith, is, q.1) | inr (inl q) ↦ omega (arith, is, q.1) | inr (inr q) ↦ omega (arith, is, q.0) ])
    | inr (inr p) ↦ absurd (
        let is : slice_index labels n ≡ 63 = e ∙ ap before p.0 in
        elim (are.each n there) [ inl q ↦ omega (arith, is, q.1) | inr (inl q) ↦ omega (arith, is, q.1) | inr (inr q) ↦ omega (arith, is, q.0) ])
    | inr (inl p) ↦ (
        let is : slice_index labels n ≡ before (slice_index dist v % 3 + 1) = e ∙ ap before p.1 in
        let b = before_level (slice_index dist v % 3) in
        elim (are.each n there) [
          | inl q ↦ absurd (elim b [ inl c ↦ omega (arith, is, q.1, c.1) | inr c ↦ omega (arith, is, q.1, c.0, c.1) ])
          | inr (inr q) ↦ absurd (elim b [ inl c ↦ omega (arith, is, q.0, c.1) | inr c ↦ omega (arith, is, q.0, c.1) ])
          | inr (inl q) ↦ (
              let s = steps p.0 q.0 in
              record {
                reached = p.0;
                less = elim b [ inl c ↦ omega (arith, is, q.1, c.0, c.1, s.0, s.1) | inr c ↦ omega (arith, is, q.1, c.0, c.1, s.0, s.1) ];
              })
        ])
  ]

  labelled : IsNear dist v n → slice_index labels n ≡ before (slice_index labels v)
  labelled near = elim (are.each v here) [
    | inl p ↦ absurd (omega (arith, near.reached, p.0))
    | inr (inr p) ↦ absurd (p.1 n (record { from = (here, λ w. omega (arith, w, near.reached)); to = (there, λ w. omega (arith, w, near.reached, near.less)); side = side }))
    | inr (inl p) ↦ elim (are.each n there) [
      | inl q ↦ absurd (omega (arith, near.reached, near.less, q.0))
      | inr (inr q) ↦ absurd (q.1 v (record { from = (there, λ w. omega (arith, w, near.reached, near.less)); to = (here, λ w. omega (arith, w, near.reached)); side = back }))
      | inr (inl q) ↦ (
          let s = steps p.0 q.0 in
          let is = ap before p.1 in
          elim (before_level (slice_index dist v % 3)) [
            | inl c ↦ omega (arith, is, q.1, c.0, c.1, s.1, near.less)
            | inr c ↦ omega (arith, is, q.1, c.0, c.1, s.1, near.less)
          ])
    ]
  ]

  tells : (slice_index labels n ≡ before (slice_index labels v)) ↔ IsNear dist v n
  tells = (nearer, labelled)

-- a way stands in the byte exactly where it leads nearer
pub points : (stride goal v exits byte : ℕ) (dist labels : List ℕ) → 0 < stride → AreLevels dist stride goal → AreLabels stride dist labels → stride ≤ v → v + stride < length dist
    → IsPointed stride labels v exits byte → AreWaysAt dist stride v byte
points stride goal v exits byte dist labels step levels are above below is = record {
  north = both (is.each North) (tells stride goal v (v - stride) dist labels levels are here (omega (arith, below)) (inl (inl (omega (arith, above)))) (inr (inl (omega (arith, above)))));
  east = both (is.each East) (tells stride goal v (v + 1) dist labels levels are here (omega (arith, step, below)) (inl (inr refl)) (inr (inr refl)));
  south = both (is.each South) (tells stride goal v (v + stride) dist labels levels are here below (inr (inl refl)) (inl (inl refl)));
  west = both (is.each West) (tells stride goal v (v - 1) dist labels levels are here (omega (arith, below)) (inr (inr (omega (arith, step, above)))) (inl (inr (omega (arith, step, above)))));
}
  where
    here : v < length dist
    here = omega (arith, step, below)

    both : {A B C : Type 0} → A ↔ B → B ↔ C → A ↔ C
    both p q = (λ a. q.0 (p.0 a), λ c. p.1 (q.1 c))

-- the byte of a place, by what is known in each direction
pub pointed_by : (stride v exits byte : ℕ) (labels : List ℕ) → byte / 16 ≡ exits
    → IsWay byte North ↔ (slice_index labels (v - stride) ≡ before (slice_index labels v)) → IsWay byte East ↔ (slice_index labels (v + 1) ≡ before (slice_index labels v))
    → IsWay byte South ↔ (slice_index labels (v + stride) ≡ before (slice_index labels v)) → IsWay byte West ↔ (slice_index labels (v - 1) ≡ before (slice_index labels v)) → IsPointed stride labels v exits byte
pointed_by stride v exits byte labels high north east south west = record { high = high; each = each }
  where
    each : (dir : Dir) → IsWay byte dir ↔ (slice_index labels (toward stride dir v) ≡ before (slice_index labels v))
    each North = north
    each East = east
    each South = south
    each West = west

-- one byte more
pub pointed_more : (w s q r byte : ℕ) (labels ways xs : List ℕ) → r < w → q * w + r < length xs → ArePointed w s labels ways (q * w + r) xs → IsPointed s labels ((q + 1) * s + r) (slice_index ways (q * w + r)) byte
    → ArePointed w s labels ways (q * w + (r + 1)) (set xs (q * w + r) byte)
pointed_more w s q r byte labels ways xs small inside each is cell below = elim (read xs (q * w + r) byte cell inside) [
  | inl e ↦ subst (λ (c : ℕ). IsPointed s labels (place w s c) (slice_index ways c) (slice_index (set xs (q * w + r) byte) cell)) (sym e.0)
      (subst (IsPointed s labels (place w s (q * w + r)) (slice_index ways (q * w + r))) (sym e.1)
      (subst (λ (p : ℕ). IsPointed s labels p (slice_index ways (q * w + r)) byte) (sym (place_at w s q r small)) is))
  | inr e ↦ subst (IsPointed s labels (place w s cell) (slice_index ways cell)) (sym e.1) (each cell (let ne = e.0 in grind (arith, below, ne)))
]
