-- The greatest of some numbers.
use Rattle.std.proofs.Common.{◌≡◌, ℕ, zero, suc, ◌<◌, ◌≤◌, ◌⊎◌, inl, inr, List, [], ◌∷◌, length, map, get_or, refl, ap, ◌∙◌, arith}
use Rattle.std.specs.Prelude.{max, fold}
use Rattle.std.specs.List.{range_with_len}
use Rattle.std.proofs.lemmas.List.{length-map, get_or-map}
use Rattle.std.proofs.lemmas.List.FromFn.{length-range_with_len, get_or-range_with_len}
use Rattle.std.proofs.lemmas.Bool.{cases_lt}

pub greatest-start : (a : ℕ) (xs : List ℕ) → a ≤ fold max a xs
greatest-start a [] = omega arith
greatest-start a (x ∷ xs) = omega (arith, greatest-start (max a x) xs)

pub greatest-item : (a : ℕ) (xs : List ℕ) (k : ℕ) → k < length xs → get_or xs k 0 ≤ fold max a xs
greatest-item a [] k l = absurd (omega arith)
greatest-item a (x ∷ xs) zero l = omega (arith, greatest-start (max a x) xs)
greatest-item a (x ∷ xs) (suc k) l = greatest-item (max a x) xs k (omega arith)

-- it is one of them, or what it begins with
IsMet : ℕ → List ℕ → ℕ → Type 0
IsMet a xs g = (g ≡ a) ⊎ ((k : ℕ) × (k < length xs) × (g ≡ get_or xs k 0))

greatest-met : (a : ℕ) (xs : List ℕ) → IsMet a xs (fold max a xs)
unfolding IsMet
greatest-met a [] = inl refl
greatest-met a (x ∷ xs) = elim (greatest-met (max a x) xs) [
  | inl same ↦ elim (cases_lt a x) [
    | inl less ↦ inr (0, omega arith, omega (arith, same))
    | inr more ↦ inl (omega (arith, same))
  ]
  | inr met ↦ inr (suc met.0, omega (arith, met.1), met.2)
]

module _ (f : ℕ → ℕ) (a n : ℕ) where
  at : (k : ℕ) → k < n → get_or (map f (range_with_len 0 n)) k 0 ≡ f k
  at k l = get_or-map f (range_with_len 0 n) k 0 0 (omega (arith, length-range_with_len 0 n)) ∙ ap f (get_or-range_with_len 0 n k 0 l ∙ omega arith)

  long : length (map f (range_with_len 0 n)) ≡ n
  long = length-map (range_with_len 0 n) f ∙ length-range_with_len 0 n

  pub greatest_of-item : (k : ℕ) → k < n → f k ≤ fold max a (map f (range_with_len 0 n))
  greatest_of-item k l = omega (arith, at k l, greatest-item a (map f (range_with_len 0 n)) k (omega (arith, long)))

  pub greatest_of-met : (fold max a (map f (range_with_len 0 n)) ≡ a) ⊎ ((k : ℕ) × (k < n) × (fold max a (map f (range_with_len 0 n)) ≡ f k))
  unfolding IsMet
  greatest_of-met = elim (greatest-met a (map f (range_with_len 0 n))) [
    | inl same ↦ inl same
    | inr met ↦ (let l : met.0 < n = omega (arith, met.1, long) in inr (met.0, l, met.2 ∙ at met.0 l))
  ]
