-- How many robots have not decided yet.
use Rattle.std.proofs.Common.{◌≡◌, ℕ, zero, suc, ◌<◌, ◌≤◌, Option, Some, None, List, [], ◌∷◌, length, get_or, refl, arith}
use Rattle.std.proofs.Math.ListN.{set}

-- how many robots have not decided
pub open_count : List (Option ℕ) → ℕ
open_count [] = 0
open_count (None ∷ xs) = suc (open_count xs)
open_count (Some _ ∷ xs) = open_count xs

pub open_count-set : (xs : List (Option ℕ)) (i v : ℕ) → i < length xs → get_or xs i None ≡ None → suc (open_count (set xs i (Some v))) ≡ open_count xs
unfolding open_count
open_count-set [] i v l e = absurd (omega arith)
open_count-set (None ∷ xs) zero v l e = refl
open_count-set (Some x ∷ xs) zero v l e = absurd (cc e)
open_count-set (None ∷ xs) (suc i) v l e = let h = open_count-set xs i v (omega arith) e in omega arith
open_count-set (Some x ∷ xs) (suc i) v l e = open_count-set xs i v (omega arith) e

pub open_count-keep : (xs ys : List (Option ℕ)) → length xs ≡ length ys → ((r c : ℕ) → get_or xs r None ≡ Some c → get_or ys r None ≡ Some c) → open_count ys ≤ open_count xs
unfolding open_count
open_count-keep [] [] e keep = omega arith
open_count-keep [] (y ∷ ys) e keep = absurd (omega arith)
open_count-keep (x ∷ xs) [] e keep = absurd (omega arith)
open_count-keep (None ∷ xs) (None ∷ ys) e keep = let h = open_count-keep xs ys (omega arith) (λ r c. keep (suc r) c) in omega arith
open_count-keep (None ∷ xs) (Some y ∷ ys) e keep = let h = open_count-keep xs ys (omega arith) (λ r c. keep (suc r) c) in omega arith
open_count-keep (Some x ∷ xs) (None ∷ ys) e keep = absurd (cc (keep zero x refl))
open_count-keep (Some x ∷ xs) (Some y ∷ ys) e keep = open_count-keep xs ys (omega arith) (λ r c. keep (suc r) c)
