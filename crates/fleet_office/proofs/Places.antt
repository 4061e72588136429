-- What stands at a place of a list after a change.
use Rattle.std.proofs.Common.{◌≡◌, ◌≢◌, ℕ, zero, suc, ◌<◌, ◌≤◌, List, [], ◌∷◌, ◌++◌, length, set, map, Some, ◌⊎◌, inl, inr, refl, ap, arith, ⊎_elim}
use Rattle.std.specs.List.{slice_get}

pub at_push : {A : Type 0} (xs : List A) (x y : A) (k : ℕ) → slice_get (xs ++ x ∷ []) k ≡ Some y → (slice_get xs k ≡ Some y) ⊎ ((k ≡ length xs) × (x ≡ y))
at_push [] x y zero e = inr (refl, cc)
at_push [] x y (suc k) e = inl e
at_push (z ∷ xs) x y zero e = inl e
at_push (z ∷ xs) x y (suc k) e = ⊎_elim (λ h. inl h) (λ (h : (k ≡ length xs) × (x ≡ y)). inr (ap suc h.0, h.1)) (at_push xs x y k e)

pub at_set : {A : Type 0} (xs : List A) (i k : ℕ) (x y : A) → slice_get (set xs i x) k ≡ Some y → ((k ≡ i) × (x ≡ y)) ⊎ ((k ≢ i) × (slice_get xs k ≡ Some y))
at_set [] i k x y e = cc
at_set (z ∷ xs) zero zero x y e = inl (refl, cc)
at_set (z ∷ xs) zero (suc k) x y e = inr ((λ h. omega arith), e)
at_set (z ∷ xs) (suc i) zero x y e = inr ((λ h. omega arith), e)
at_set (z ∷ xs) (suc i) (suc k) x y e = ⊎_elim (λ (h : (k ≡ i) × (x ≡ y)). inl (ap suc h.0, h.1)) (λ (h : (k ≢ i) × (slice_get xs k ≡ Some y)). inr ((λ q. h.0 (omega arith)), h.1)) (at_set xs i k x y e)

-- every place of a longer list comes from the shorter one, or is the new one
pub within : {A : Type 0} (xs : List A) (k : ℕ) (y : A) → slice_get xs k ≡ Some y → k < length xs
within [] k y e = cc
within (x ∷ xs) zero y e = omega arith
within (x ∷ xs) (suc k) y e = let h = within xs k y e in omega arith

pub at_map : {A B : Type 0} (f : A → B) (xs : List A) (k : ℕ) (y : B) → slice_get (map f xs) k ≡ Some y → (x : A) × (slice_get xs k ≡ Some x) × (f x ≡ y)
at_map f [] k y e = cc
at_map f (x ∷ xs) zero y e = (x, refl, cc)
at_map f (x ∷ xs) (suc k) y e = at_map f xs k y e

pub map_at : {A B : Type 0} (f : A → B) (xs : List A) (k : ℕ) (x : A) → slice_get xs k ≡ Some x → slice_get (map f xs) k ≡ Some (f x)
map_at f [] k x e = cc
map_at f (z ∷ xs) zero x e = let same : z ≡ x = cc in ap (λ y. Some (f y)) same
map_at f (z ∷ xs) (suc k) x e = map_at f xs k x e

pub there_is : {A : Type 0} (xs : List A) (k : ℕ) → k < length xs → (x : A) × (slice_get xs k ≡ Some x)
there_is [] k h = absurd (omega arith)
there_is (x ∷ xs) zero h = (x, refl)
there_is (x ∷ xs) (suc k) h = there_is xs k (omega arith)

-- what was put at a place stands there
pub set_there : {A : Type 0} (xs : List A) (i : ℕ) (x y : A) → slice_get xs i ≡ Some x → slice_get (set xs i y) i ≡ Some y
set_there [] i x y e = cc
set_there (z ∷ xs) zero x y e = refl
set_there (z ∷ xs) (suc i) x y e = set_there xs i x y e

-- no place is before the first
pub from_first : (k : ℕ) → 0 ≤ k
from_first k = omega arith
