-- Sets of cells that no walk leaves.
use Rattle.std.proofs.Common.{◌≡◌, ℕ, ◌<◌, ◌⊎◌, inl, inr, Option, Some, None, List, [], ◌∷◌, sym, subst, refl, ap}
use Rattle.std.proofs.lemmas.Bool.{cases_eq}
use Rattle.fleet_pibt.specs.inside.Plan.{Failed, Written, Distinct}
use Rattle.fleet_grid.specs.Walk.{Walks, Besides, IsOnSide}
use Rattle.fleet_pibt.proofs.Reserve.{none_or_some}

-- a set that no edge leaves has the end of each walk that starts in it
pub Walks-closed : (R : ℕ → ℕ → Type 0) (K : ℕ → Type 0) → ((x y : ℕ) → R x y → K x → K y) → (cs : List ℕ) (a b : ℕ) → Walks R a cs b → K a → K b
Walks-closed R K on [] a b e k = subst K e k
Walks-closed R K on (c ∷ cs) a b w k = Walks-closed R K on cs c b w.1 (on a c w.0 k)

-- with nobody else decided, `e` reserved the cell of `k`, and the plan of `k` failed
module _ (Near : ℕ → ℕ → Type 0) (n : ℕ) (from : ℕ → ℕ) (cost : ℕ → ℕ → ℕ) (distinct : Distinct n from) (t : ℕ → Option ℕ) (e k : ℕ) (t1 h1 t2 h2 : ℕ → Option ℕ)
    (empty : (r : ℕ) → t r ≡ None) (small : e < n) (small-k : k < n)
    (wt1 : Written t e (Some (from k)) t1)
    (failed : Failed Near n from cost k t1 h1 t2 h2) where
  -- the cell of a robot that was planned in the call
  Inside : ℕ → Type 0
  Inside c = (x : ℕ) × (from x ≡ c) × (x < n) × (t1 x ≡ None) × ((x ≡ k) ⊎ ((d : ℕ) × (t2 x ≡ Some d)))

  closed-only : (j c : ℕ) → t1 j ≡ Some c → j ≡ e
  closed-only j c a = elim (cases_eq j e) [ inl q ↦ q | inr q ↦ absurd (cc (wt1.off j q, empty j)) ]

  closed-e : t2 e ≡ Some (from k)
  closed-e = failed.grown.keep e (from k) wt1.at

  closed-k : t1 k ≡ None
  closed-k = elim (none_or_some (t1 k)) [ inl none ↦ none | inr some ↦ absurd (cc (failed.grown.keep k _ some.1, failed.grown.idle)) ]

  closed-start : Inside (from k)
  unfolding Inside
  closed-start = (k, refl, small-k, closed-k, inl refl)

  closed-held : (x q : ℕ) → h2 x ≡ Some q → Inside x
  unfolding Inside
  closed-held x q a =
      let b : t2 q ≡ Some x = failed.grown.tidy.kept x q a in
      elim (none_or_some (t1 q)) [
        | inl none ↦ (q, sym (failed.grown.stay q x none b), failed.grown.tidy.real q x b, none, inr (x, b))
        | inr some ↦ (
            let same : q ≡ e = closed-only q some.0 some.1 in
            let at : from k ≡ x = cc (closed-e, ap t2 same) in
            (k, at, small-k, closed-k, inl refl))
      ]

  closed-on : (x y : ℕ) → Besides Near (from e) (from k) x y → Inside x → Inside y
  unfolding Inside
  closed-on x y r inside =
      let q = inside.0 in
      let near : Near (from q) y = subst (λ (z : ℕ). Near z y) (sym inside.1) r.near in
      elim (none_or_some (h2 y)) [
        | inr some ↦ closed-held y some.0 some.1
        | inl none ↦ elim inside.4 [
          | inr new ↦ (k, sym (failed.grown.shut q new.0 y inside.3 new.1 near none), small-k, closed-k, inl refl)
          | inl same ↦ (
              let j = failed.around y (subst (λ (z : ℕ). Near (from z) y) same near) none in
              let a : h2 (from k) ≡ Some j.0 = failed.grown.tidy.held _ _ j.1 in
              let b : h2 (from k) ≡ Some e = failed.grown.tidy.held _ _ closed-e in
              let it : j.0 ≡ e = cc in
              absurd (r.back (cc (inside.1, ap from same)) (cc (j.2, ap from it))))
        ]
      ]

  closed-side : (c : ℕ) → IsOnSide Near (from e) (from k) c → Inside c
  closed-side c side = Walks-closed (Besides Near (from e) (from k)) Inside closed-on side.steps (from k) c side.walk closed-start

  -- the cell of `e` is not beyond that edge
  pub closed-apart : IsOnSide Near (from e) (from k) (from e) → ⊥
  unfolding Inside
  closed-apart side =
      let inside = closed-side (from e) side in
      let same : inside.0 ≡ e = distinct _ _ inside.2 small inside.1 in
      cc (wt1.at, inside.3, ap t1 same)

  -- each cell beyond it holds a robot
  pub closed-full : (c : ℕ) → IsOnSide Near (from e) (from k) c → (r : ℕ) × (r < n) × (from r ≡ c)
  unfolding Inside
  closed-full c side = let inside = closed-side c side in (inside.0, inside.2, inside.1)
