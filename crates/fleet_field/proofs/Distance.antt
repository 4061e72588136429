-- Numbers that each place can check against its neighbours are distances.
use Rattle.std.proofs.Common.{◌≡◌, ◌≢◌, ℕ, zero, suc, ◌+◌, ◌<◌, ◌≤◌, List, [], ◌∷◌, length, refl, sym, ap, ◌∙◌, arith}
use Rattle.fleet_grid.specs.Walk.{Walks, IsDistance, AreApart}

module _ (Near : ℕ → ℕ → Type 0) (Open : ℕ → Type 0) (f : ℕ → ℕ) (goal bound : ℕ) (small : bound < 1073741824)
    (there : (a b : ℕ) → Near a b → Open b) (start : f goal ≡ 0) (only : (v : ℕ) → Open v → f v ≡ 0 → v ≡ goal)
    (back : (v d : ℕ) → Open v → f v ≢ 4294967295 → f v ≡ d + 1 → (u : ℕ) × Near v u × (f u ≡ d))
    (onward : (v u : ℕ) → Near v u → f u ≢ 4294967295 → f v ≤ f u + 1)
    (low : (v : ℕ) → Open v → f v ≢ 4294967295 → f v ≤ bound) where
  -- no walk is shorter
  shortest : (cs : List ℕ) (v : ℕ) → Open v → Walks Near v cs goal → (f v ≢ 4294967295) × (f v ≤ length cs)
  shortest [] v o w = let z : f v ≡ 0 = ap f w ∙ start in ((λ x. omega (arith, x, z)), omega (arith, z))
  shortest (c ∷ cs) v o w =
      let r = shortest cs c (there v c w.0) w.1 in
      let n = onward v c w.0 r.0 in
      let l = low c (there v c w.0) r.0 in
      ((λ x. omega (arith, x, n, l, small)), omega (arith, n, r.1))

  -- and there is one of that length
  walk_of : (d v : ℕ) → Open v → f v ≡ d → d ≢ 4294967295 → (cs : List ℕ) × Walks Near v cs goal × (length cs ≡ d)
  walk_of zero v o e near = ([], only v o e, refl)
  walk_of (suc d) v o e near =
      let here : f v ≢ 4294967295 = (λ x. near (sym e ∙ x)) in
      let step = back v d o here (omega (arith, e)) in
      let l = low v o here in
      let rest = walk_of d step.0 (there v step.0 step.1) step.2 (λ x. omega (arith, x, l, e, small)) in
      (step.0 ∷ rest.0, (step.1, rest.1), omega (arith, rest.2))

  pub is_distance : (v : ℕ) → Open v → f v ≢ 4294967295 → IsDistance Near v goal (f v)
  is_distance v o near = record { walk = walk_of (f v) v o refl near; least = λ cs w. (shortest cs v o w).1 }

  pub is_apart : (v : ℕ) → Open v → f v ≡ 4294967295 → AreApart Near v goal
  is_apart v o far cs w = (shortest cs v o w).0 far
