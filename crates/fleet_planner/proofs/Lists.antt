-- Lists that are known item by item.
use Rattle.std.proofs.Common.{◌≡◌, ℕ, suc, ◌+◌, ◌<◌, List, [], ◌∷◌, length, map, Option, Some, None, refl, ap, ◌∙◌, arith, inl, inr}
use Rattle.std.specs.Prelude.{slice_index_or}
use Rattle.std.specs.List.{range_with_len}
use Rattle.std.proofs.lemmas.List.{length-map, get_or-map, get_or_past}
use Rattle.std.proofs.lemmas.List.FromFn.{length-range_with_len, get_or-range_with_len}
use Rattle.std.proofs.lemmas.Bool.{cases_lt}

-- a list whose items are those of a function is that function over the numbers
pub list_of : {X : Type 0} (f : ℕ → Option X) (a : ℕ) (xs : List (Option X)) → ((k : ℕ) → k < length xs → slice_index_or xs k None ≡ f (a + k)) →
    xs ≡ map f (range_with_len a (length xs))
list_of f a [] each = refl
list_of {X = X} f a (x ∷ xs) each =
    let here : x ≡ f a = each 0 (omega arith) ∙ ap f (omega arith) in
    let rest : xs ≡ map f (range_with_len (a + 1) (length xs)) = list_of f (a + 1) xs (λ k l. each (suc k) (omega arith) ∙ ap f (omega arith)) in
    ap (λ (y : Option X). y ∷ xs) here ∙ ap (λ ys. f a ∷ ys) rest

-- an item of a function over the numbers
pub item_of : {X : Type 0} (f : ℕ → Option X) (n r : ℕ) → r < n → slice_index_or (map f (range_with_len 0 n)) r None ≡ f r
item_of f n r l = get_or-map f (range_with_len 0 n) r 0 None (omega (arith, length-range_with_len 0 n)) ∙ ap f (get_or-range_with_len 0 n r 0 l ∙ omega arith)

pub none_past : {X : Type 0} (f : ℕ → Option X) (n r : ℕ) (x : X) → slice_index_or (map f (range_with_len 0 n)) r None ≡ Some x → r < n
none_past {X = X} f n r x e =
    elim (cases_lt r n) [
      | inl l ↦ l
      | inr past ↦
          let out : slice_index_or (map f (range_with_len 0 n)) r None ≡ None = get_or_past (map f (range_with_len 0 n)) r None (omega (arith, length-map (range_with_len 0 n) f, length-range_with_len 0 n)) in
          cc
    ]
