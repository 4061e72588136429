-- What is counted, one after another.
use Rattle.std.proofs.Common.{◌≡◌, ◌∙◌, ◌≤◌, ◌<◌, ◌+◌, ◌-◌, ◌^◌, ℕ, List, [], ◌∷◌, ◌++◌, length, take, get_or, min, ap, sym, append_assoc, arith}
use Rattle.std.specs.List.{sum_by, range_with_len}
use Rattle.std.specs.Prelude.{map}
use Rattle.std.proofs.lemmas.List.{take_all}
use Rattle.std.proofs.lemmas.List.FromFn.{map-range_with_len_more}
use Rattle.std.proofs.lemmas.List.Sums.{sum_by_more}

capped_more : (s n m : ℕ) → min (min s m + n) m ≡ min (s + n) m
capped_more s n m = omega (arith)

-- a sum that stops at a number, with one more part
pub sum-more : {X : Type 0} (f : X → ℕ) (xs : List X) (i most sum n next : ℕ) (x : X) → i < length xs → x ≡ get_or xs i x → n ≡ f x → next ≡ min (sum + n) most → sum ≡ min (sum_by f (take i xs)) most
    → next ≡ min (sum_by f (take (i + 1) xs)) most
sum-more f xs i most sum n next x within is part more so_far =
    more
    ∙ ap (λ (k : ℕ). min (k + n) most) so_far
    ∙ capped_more (sum_by f (take i xs)) n most
    ∙ ap (λ (k : ℕ). min (sum_by f (take i xs) + k) most) (part ∙ ap f is)
    ∙ ap (λ (k : ℕ). min k most) (sym (sum_by_more f xs i x within))

pub sum-all : {X : Type 0} (f : X → ℕ) (xs : List X) (i most sum : ℕ) → length xs ≤ i → sum ≡ min (sum_by f (take i xs)) most → sum ≡ min (sum_by f xs) most
sum-all f xs i most sum past so_far = so_far ∙ ap (λ (l : List _). min (sum_by f l) most) (take_all i xs past)

-- a list with one more of the items that a function gives
pub given-more : {X : Type 0} (f : ℕ → X) (first : List X) (n : ℕ) (xs ys : List X) (x : X) → xs ≡ first ++ map f (range_with_len 0 n) → x ≡ f n → ys ≡ xs ++ x ∷ [] → ys ≡ first ++ map f (range_with_len 0 (n + 1))
given-more f first n xs ys x so_far is more =
    more ∙ ap (λ (l : List _). l ++ x ∷ []) so_far ∙ append_assoc first (map f (range_with_len 0 n)) (x ∷ []) ∙ ap (λ (l : List _). first ++ l) (ap (λ (y : _). map f (range_with_len 0 n) ++ y ∷ []) is ∙ sym (map-range_with_len_more f 0 n n (omega arith)))
