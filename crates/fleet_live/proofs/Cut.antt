-- The first line of bytes.
use Rattle.std.proofs.Common.{◌≡◌, ◌∙◌, ◌<◌, ◌+◌, ℕ, zero, suc, true, List, [], ◌∷◌, ◌++◌, Some, None, length, drop, take, get_or, refl, ap, arith}
use Rattle.std.proofs.lemmas.Bool.{eqb-true}
use Rattle.std.proofs.lemmas.Grind.{common_steps}
use Rattle.std.proofs.lemmas.List.{get_or-take, length-take-le}
use Rattle.std.proofs.lemmas.List.Quantifiers.{position-Some}
use Rattle.std.proofs.lemmas.List.Sums.{position_or_len_is}
use Rattle.std.specs.List.{position, position_or_len}
use Rattle.fleet_live.specs.Taken.{is_line_feed}

cut_after : (xs : List ℕ) (k : ℕ) → k < length xs → xs ≡ take k xs ++ get_or xs k 0 ∷ drop (suc k) xs
cut_after [] k within = absurd (omega (arith, within))
cut_after (x ∷ xs) zero within = refl
cut_after (x ∷ xs) (suc k) within = ap (λ (l : List ℕ). x ∷ l) (cut_after xs k (omega (arith, within)))

is_feed : (b : ℕ) → is_line_feed b ≡ true → b ≡ 10
is_feed b e = eqb-true b 10 e

-- the first line, its line feed, and what comes after them
pub cut_at : (xs : List ℕ) (k : ℕ) → position is_line_feed xs ≡ Some k → xs ≡ take k xs ++ 10 ∷ drop (k + 1) xs
cut_at xs k found =
    let (within, feed, before) = position-Some is_line_feed xs k 0 found in
    let next : suc k ≡ k + 1 = omega arith in
    cut_after xs k within ∙ (ap (λ (n : ℕ). take k xs ++ get_or xs k 0 ∷ drop n xs) next ∙ ap (λ (b : ℕ). take k xs ++ b ∷ drop (k + 1) xs) (is_feed (get_or xs k 0) feed))

-- the first line has no line feed
pub has_no_feed : (xs : List ℕ) (k : ℕ) → position is_line_feed xs ≡ Some k → position is_line_feed (take k xs) ≡ None
has_no_feed xs k found =
    let (within, feed, before) = position-Some is_line_feed xs k 0 found in
    let long : length (take k xs) ≡ k = length-take-le k xs (omega (arith, within)) in
    let at : position_or_len is_line_feed (take k xs) ≡ k = position_or_len_is is_line_feed (take k xs) k 0 (omega (arith, long)) (λ j lt. ap is_line_feed (get_or-take k xs j 0 lt) ∙ before j lt) (λ lt. absurd (omega (arith, long, lt))) in
    grind (arith, common_steps)
