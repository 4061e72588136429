-- Lists made robot by robot, and what a tick brings.
use Rattle.std.proofs.Common.{◌≡◌, ℕ, zero, suc, ◌+◌, ◌<◌, List, [], ◌∷◌, ◌++◌, length, take, map, Some, sym, ap, ◌∙◌, arith, add-one, get_or}
use Rattle.std.specs.Prelude.{slice_get}
use Rattle.std.specs.List.{flat_map, range_with_len}
use Rattle.std.proofs.lemmas.List.{append-nil, append_assoc, take_more, map_push}
use Rattle.std.proofs.lemmas.Option.{slice_get_within, get_or_from_slice_get}
use Rattle.std.proofs.Math.Seq.{take-append_seam}

range_more : {A : Type 0} (f : ℕ → List A) (a n k : ℕ) → a + n ≡ k → flat_map f (range_with_len a (suc n)) ≡ flat_map f (range_with_len a n) ++ f k
range_more f a zero k e = let s : k ≡ a = omega arith in rw s (append-nil (f a))
range_more f a (suc n) k e =
    ap (λ x. f a ++ x) (range_more f (a + 1) n k (omega arith)) ∙ sym (append_assoc (f a) (flat_map f (range_with_len (a + 1) n)) (f k))

-- one more robot
pub flat_map-range_more : {A : Type 0} (f : ℕ → List A) (n : ℕ) → flat_map f (range_with_len 0 (n + 1)) ≡ flat_map f (range_with_len 0 n) ++ f n
flat_map-range_more f n = rw add-one (range_more f 0 n n (omega arith))

-- one more robot, where each adds one item
pub map-range_more : {A : Type 0} (f : ℕ → A) (n : ℕ) → map f (range_with_len 0 (n + 1)) ≡ map f (range_with_len 0 n) ++ f n ∷ []
map-range_more f n = rw add-one (go 0 n n (omega arith))
  where
    go : (a n k : ℕ) → a + n ≡ k → map f (range_with_len a (suc n)) ≡ map f (range_with_len a n) ++ f k ∷ []
    go a zero k e = let s : a ≡ k = omega arith in ap (λ i. f i ∷ []) s
    go a (suc n) k e = ap (λ x. f a ∷ x) (go (a + 1) n k (omega arith))

-- the front of a list
pub front-of : {X : Type 0} (n : ℕ) (xs ys : List X) → n ≡ length xs → take n (xs ++ ys) ≡ xs
front-of n xs ys e = ap (λ k. take k (xs ++ ys)) e ∙ take-append_seam xs ys

-- one more item
pub map-take_more : {X Y : Type 0} (f : X → Y) (xs : List X) (i : ℕ) (x : X) → i < length xs → x ≡ get_or xs i x → map f (take (i + 1) xs) ≡ map f (take i xs) ++ f x ∷ []
map-take_more f xs i x l e = ap (map f) (take_more xs i x l) ∙ map_push f (take i xs) (get_or xs i x) ∙ ap (λ y. map f (take i xs) ++ f y ∷ []) (sym e)

pub take-get_more : {X : Type 0} (xs : List X) (i : ℕ) (x : X) → slice_get xs i ≡ Some x → take (i + 1) xs ≡ take i xs ++ x ∷ []
take-get_more xs i x e = take_more xs i x (slice_get_within xs i x e) ∙ ap (λ y. take i xs ++ y ∷ []) (get_or_from_slice_get xs i x x e)
