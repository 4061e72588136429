-- Lists that are split at an item, and what holds of all items of such a list.
use Rattle.std.proofs.Common.{◌≡◌, ℕ, zero, suc, ◌⊎◌, List, [], ◌∷◌, ◌++◌, Some, refl, ap, ◌∙◌, sym, arith, inl, inr}
use Rattle.std.specs.Prelude.{All, slice_get}

-- what holds of all items of a list holds of those after the first, and of each
pub tail_all : {X : Type 0} (P : X → Type 0) (x : X) (xs : List X) → All P (x ∷ xs) → All P xs
tail_all P x xs a k d l = a (suc k) d (omega arith)

pub middle_all : {X : Type 0} (P : X → Type 0) (before rest : List X) (x : X) → All P (before ++ x ∷ rest) → P x
middle_all P [] rest x a = a 0 x (omega arith)
middle_all P (b ∷ before) rest x a = middle_all P before rest x (tail_all P b (before ++ x ∷ rest) a)

-- of two lists in a row, which one an item lies in
unfoldable pub IsSplitIn : {X : Type 0} (xs ys before rest : List X) (z : X) → Type 0
IsSplitIn {X} xs ys before rest z =
    ((more : List X) × (xs ≡ before ++ z ∷ more)) ⊎ ((behind : List X) × (before ≡ xs ++ behind) × (ys ≡ behind ++ z ∷ rest))

-- where two lists in a row are split
pub append_split : {X : Type 0} (xs ys before rest : List X) (z : X) → xs ++ ys ≡ before ++ z ∷ rest → IsSplitIn xs ys before rest z
unfolding IsSplitIn
append_split [] ys before rest z q = inr (before, refl, q)
append_split (x ∷ xs) ys [] rest z q = let s : x ≡ z = cc in inl (xs, ap (λ t. t ∷ xs) s)
append_split (x ∷ xs) ys (b ∷ bs) rest z q =
    let s : x ≡ b = cc in
    let t : xs ++ ys ≡ bs ++ z ∷ rest = cc in
    elim (append_split xs ys bs rest z t) [
      | inl here ↦ inl (here.0, ap (λ u. u ∷ xs) s ∙ ap (λ u. b ∷ u) here.1)
      | inr there ↦ inr (there.0, ap (λ u. u ∷ bs) (sym s) ∙ ap (λ u. x ∷ u) there.1, there.2)
    ]

-- a list is split at each of its items
pub split_at : {X : Type 0} (xs : List X) (i : ℕ) (x : X) → slice_get xs i ≡ Some x → (before : List X) × (rest : List X) × (xs ≡ before ++ x ∷ rest)
split_at [] i x e = cc
split_at (y ∷ xs) zero x e = let s : y ≡ x = cc in ([], xs, ap (λ z. z ∷ xs) s)
split_at (y ∷ xs) (suc i) x e = let p = split_at xs i x e in (y ∷ p.0, p.1, ap (λ t. y ∷ t) p.2)
