-- The first whole line of bytes, and whole lines that are written.
use Rattle.std.proofs.Common.{◌≡◌, ℕ, zero, suc, ◌+◌, ◌-◌, ◌<◌, ◌≤◌, List, [], ◌∷◌, ◌++◌, length, get_or, take, drop, Some, None, true, false, refl, sym, ap, ◌∙◌, append_assoc, eqb-true, add-one, arith}
use Rattle.std.specs.List.{AllByRecursion, slice_split, position}
use Rattle.std.proofs.lemmas.List.Elements.{All-from_recursion}
use Rattle.std.proofs.lemmas.List.Quantifiers.{position-Some}
use Rattle.std.proofs.lemmas.List.Splits.{slice_split_at, slice_split_none, length-slice_split}
use Rattle.fleet_map.specs.Text.{is_line_feed}
use Rattle.fleet_map.proofs.TextLemmas.{split_some, split_none, behind}
use Rattle.fleet_journal.specs.Lines.{but_last, whole_lines, bytes_of}

keeps_first : (x : List ℕ) (ys : List (List ℕ)) → 0 < length ys → but_last (x ∷ ys) ≡ x ∷ but_last ys
keeps_first x [] h = absurd (omega arith)
keeps_first x (y ∷ ys) h = refl

parts_after : (x : List ℕ) (rest : List ℕ) → but_last (x ∷ slice_split is_line_feed rest) ≡ x ∷ whole_lines rest
parts_after x rest = keeps_first x (slice_split is_line_feed rest) (omega (arith, length-slice_split is_line_feed rest))

-- ---- lines that are found

pub first_is : (s : List ℕ) (k : ℕ) → position is_line_feed s ≡ Some k → whole_lines s ≡ take k s ∷ whole_lines (take (length s - (k + 1)) (drop (k + 1) s))
first_is s k e = rw (behind s (k + 1)) (ap but_last (split_some is_line_feed s k e) ∙ parts_after (take k s) (drop (k + 1) s))

pub none_is : (s : List ℕ) → position is_line_feed s ≡ None → whole_lines s ≡ []
none_is s e = ap but_last (split_none is_line_feed s e)

split_suc : (s : List ℕ) (k : ℕ) → k < length s → s ≡ take k s ++ get_or s k 0 ∷ drop (suc k) s
split_suc [] k l = absurd (omega (arith, l))
split_suc (b ∷ s) zero l = refl
split_suc (b ∷ s) (suc k) l = ap (λ (x : List ℕ). b ∷ x) (split_suc s k (omega (arith, l)))

split_here : (s : List ℕ) (k : ℕ) → k < length s → s ≡ take k s ++ get_or s k 0 ∷ drop (k + 1) s
split_here s k l = split_suc s k l ∙ ap (λ (n : ℕ). take k s ++ get_or s k 0 ∷ drop n s) (sym (add-one k))

feed_is : (b : ℕ) → is_line_feed b ≡ true → b ≡ 10
feed_is b e = eqb-true b 10 e

pub joined_is : (s : List ℕ) (k : ℕ) → position is_line_feed s ≡ Some k → s ≡ take k s ++ 10 ∷ take (length s - (k + 1)) (drop (k + 1) s)
joined_is s k e =
    let h = position-Some is_line_feed s k 0 e in
    rw (behind s (k + 1)) (split_here s k h.0 ∙ ap (λ (b : ℕ). take k s ++ b ∷ drop (k + 1) s) (feed_is (get_or s k 0) h.1))

-- ---- lines that are written

abbrev pub HasNoFeed : List ℕ → Type 0
HasNoFeed line = AllByRecursion (λ b. is_line_feed b ≡ false) line

pub line-then : (line rest : List ℕ) → HasNoFeed line → whole_lines (line ++ 10 ∷ rest) ≡ line ∷ whole_lines rest
line-then line rest h = ap but_last (slice_split_at is_line_feed line 10 rest (All-from_recursion (λ b. is_line_feed b ≡ false) line h) refl) ∙ parts_after line rest

pub no-line : (line : List ℕ) → HasNoFeed line → whole_lines line ≡ []
no-line line h = ap but_last (slice_split_none is_line_feed line (All-from_recursion (λ b. is_line_feed b ≡ false) line h))

pub bytes_of-append : (xs ys : List (List ℕ)) → bytes_of (xs ++ ys) ≡ bytes_of xs ++ bytes_of ys
bytes_of-append [] ys = refl
bytes_of-append (x ∷ xs) ys = ap (λ (r : List ℕ). x ++ 10 ∷ r) (bytes_of-append xs ys) ∙ sym (append_assoc x (10 ∷ bytes_of xs) (bytes_of ys))
