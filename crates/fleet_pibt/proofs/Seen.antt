-- Lists of which each entry has a property at its place.
use Rattle.std.proofs.Common.{◌≡◌, ◌≢◌, ℕ, zero, suc, ◌+◌, ◌<◌, ◌≤◌, inl, inr, Some, List, [], ◌∷◌, length, get_or, slice_get, arith, refl, sym, subst, ap, ◌∙◌}
use Rattle.std.proofs.Math.ListN.{set}
use Rattle.std.proofs.lemmas.Bool.{cases_eq, cases_lt}

pub seen-below : {X : Type 0} (xs : List X) (i : ℕ) (x : X) → slice_get xs i ≡ Some x → i < length xs
seen-below [] i x e = absurd (cc (e))
seen-below (y ∷ xs) zero x e = omega arith
seen-below (y ∷ xs) (suc i) x e = let l = seen-below xs i x e in omega arith

seen-set_other : {X : Type 0} (xs : List X) (i j : ℕ) (y : X) → j ≢ i → slice_get (set xs i y) j ≡ slice_get xs j
seen-set_other [] i j y ne = refl
seen-set_other (x ∷ xs) zero zero y ne = absurd (ne refl)
seen-set_other (x ∷ xs) zero (suc j) y ne = refl
seen-set_other (x ∷ xs) (suc i) zero y ne = refl
seen-set_other (x ∷ xs) (suc i) (suc j) y ne = seen-set_other xs i j y (λ (e : j ≡ i). ne (ap suc e))

seen-set_same : {X : Type 0} (xs : List X) (i : ℕ) (x y : X) → slice_get (set xs i y) i ≡ Some x → y ≡ x
seen-set_same [] i x y e = absurd (cc (e))
seen-set_same (z ∷ xs) zero x y e = cc (e)
seen-set_same (z ∷ xs) (suc i) x y e = seen-set_same xs i x y e

-- one more entry is written
pub seen-more : {X : Type 0} (P : ℕ → X → Type 0) (xs : List X) (k : ℕ) (y : X) → ((r : ℕ) (x : X) → r < k → slice_get xs r ≡ Some x → P r x) → P k y →
    (r : ℕ) (x : X) → r < k + 1 → slice_get (set xs k y) r ≡ Some x → P r x
seen-more P xs k y before here r x l e = elim (cases_eq r k) [
  | inl same ↦ (
      let e' : slice_get (set xs k y) k ≡ Some x = subst (λ (i : ℕ). slice_get (set xs k y) i ≡ Some x) same e in
      let it : y ≡ x = seen-set_same xs k x y e' in
      subst (λ (i : ℕ). P i x) (sym same) (subst (λ z. P k z) it here))
  | inr ne ↦ before r x (omega arith) (sym (seen-set_other xs k r y ne) ∙ e)
]

-- the entries after it stay
pub seen-rest : {X : Type 0} (P : ℕ → X → Type 0) (xs : List X) (k : ℕ) (y : X) → ((r : ℕ) (x : X) → k ≤ r → slice_get xs r ≡ Some x → P r x) →
    (r : ℕ) (x : X) → k + 1 ≤ r → slice_get (set xs k y) r ≡ Some x → P r x
seen-rest P xs k y rest r x l e = rest r x (omega arith) (sym (seen-set_other xs k r y (λ (same : r ≡ k). omega arith)) ∙ e)

-- an entry is written where all have it
pub seen-all : {X : Type 0} (P : ℕ → X → Type 0) (xs : List X) (k : ℕ) (y : X) → ((r : ℕ) (x : X) → slice_get xs r ≡ Some x → P r x) → P k y → (r : ℕ) (x : X) → slice_get (set xs k y) r ≡ Some x → P r x
seen-all P xs k y all here r x e = elim (cases_lt r (k + 1)) [
  | inl below ↦ seen-more P xs k y (λ i z _ it. all i z it) here r x below e
  | inr above ↦ seen-rest P xs k y (λ i z _ it. all i z it) r x above e
]

pub seen-at : {X : Type 0} (xs : List X) (i : ℕ) (d : X) → i < length xs → slice_get xs i ≡ Some (get_or xs i d)
seen-at [] i d l = absurd (omega arith)
seen-at (x ∷ xs) zero d l = refl
seen-at (x ∷ xs) (suc i) d l = seen-at xs i d (omega arith)
