-- The lines of an input, as they are read one by one.
use Rattle.std.proofs.Common.{◌≡◌, ◌≢◌, ◌∙◌, ℕ, ◌<◌, Bool, true, false, List, [], ◌∷◌, ◌++◌, All, length, take, map, Option, None, Some, IfSome, IsTrue, ◌↔◌, refl, sym, ap, subst, arith, ne_eqb, eqb}
use Rattle.std.specs.List.{slice_split}
use Rattle.std.specs.Io.BufRead.{take_through, drop_through, first_piece, strip_last, DropsThrough}
use Rattle.std.proofs.BufReadLemmas.{take_through-append, drop_through-append}
use Rattle.std.proofs.lemmas.List.{append-nil}
use Rattle.std.proofs.lemmas.List.Elements.{All-head, All-tail, All-nil, All-cons}
use Rattle.std.proofs.lemmas.List.Splits.{slice_split_none, slice_split_at, length-slice_split}
use Rattle.std.proofs.lemmas.Bool.{eqb-true, eqb-false, false≢true}
use Rattle.fleet_map.specs.Text.{is_line_feed, without_empty_last}
use Rattle.fleet_map.proofs.TextLemmas.{keeps_first}
use Rattle.fleet_talk.proofs.Strips.{strip-none, strip-end}
use Rattle.fleet_talk.specs.Heard.{heard_lines, IsNext}

abbrev pub HasNoFeed : List ℕ → Type 0
HasNoFeed xs = All (λ x. x ≢ 10) xs

-- the bytes up to the first line feed, if there is one
data Cut (bytes : List ℕ) : Type 0 where
  whole : HasNoFeed bytes → Cut bytes
  parts : (front rest : List ℕ) → HasNoFeed front → bytes ≡ front ++ 10 ∷ rest → Cut bytes

cut_more : (x : ℕ) (bytes : List ℕ) → x ≢ 10 → Cut bytes → Cut (x ∷ bytes)
cut_more x bytes other (whole none) = whole (All-cons (λ y. y ≢ 10) x bytes other none)
cut_more x bytes other (parts front rest none is) = parts (x ∷ front) rest (All-cons (λ y. y ≢ 10) x front other none) (ap (λ l. x ∷ l) is)

cut : (bytes : List ℕ) → Cut bytes
cut [] = whole (All-nil (λ x. x ≢ 10))
cut (x ∷ bytes) = go (eqb x 10) refl (cut bytes)
  where
    go : (b : Bool) → eqb x 10 ≡ b → Cut bytes → Cut (x ∷ bytes)
    go true is more = parts [] bytes (All-nil (λ y. y ≢ 10)) (ap (λ y. y ∷ bytes) (eqb-true x 10 is))
    go false is more = cut_more x bytes (eqb-false x 10 is) more

-- the lines without their line feeds, of each this many bytes
abbrev kept : ℕ → List ℕ → List (List ℕ)
kept most bytes = map (take most) (without_empty_last (slice_split is_line_feed bytes))

abbrev Fed : ℕ → List ℕ → Type 0
Fed most bytes = kept most bytes ≡ take most (first_piece 10 bytes) ∷ kept most (drop_through 10 bytes)

no_feed : (xs : List ℕ) → HasNoFeed xs → All (λ x. is_line_feed x ≡ false) xs
no_feed [] none = All-nil (λ x. is_line_feed x ≡ false)
no_feed (x ∷ xs) none =
    All-cons (λ y. is_line_feed y ≡ false) x xs (ne_eqb x 10 (All-head (λ y. y ≢ 10) x xs none)) (no_feed xs (All-tail (λ y. y ≢ 10) x xs none))

-- a last line without a line feed
last_line : (most x : ℕ) (xs : List ℕ) → HasNoFeed (x ∷ xs) → Fed most (x ∷ xs)
last_line most x xs none =
    let all = x ∷ xs in
    let read : take_through 10 all ≡ all = ap (take_through 10) (sym (append-nil all)) ∙ (take_through-append 10 all [] none ∙ append-nil all) in
    let left : drop_through 10 all ≡ [] = ap (drop_through 10) (sym (append-nil all)) ∙ drop_through-append 10 all [] none in
    let piece : first_piece 10 all ≡ all = ap (strip_last 10) read ∙ strip-none all none in
    ap (λ (ls : List (List ℕ)). map (take most) (without_empty_last ls)) (slice_split_none is_line_feed all (no_feed all none))
    ∙ (ap (λ l. take most l ∷ []) (sym piece) ∙ ap (λ l. take most (first_piece 10 all) ∷ kept most l) (sym left))

-- a line with its line feed
full_line : (most : ℕ) (front rest : List ℕ) → HasNoFeed front → Fed most (front ++ 10 ∷ rest)
full_line most front rest none =
    let all = front ++ 10 ∷ rest in
    let many : 0 < length (slice_split is_line_feed rest) = omega (arith, length-slice_split is_line_feed rest) in
    let read : take_through 10 all ≡ front ++ 10 ∷ [] = take_through-append 10 front (10 ∷ rest) none in
    let left : drop_through 10 all ≡ rest = drop_through-append 10 front (10 ∷ rest) none in
    let piece : first_piece 10 all ≡ front = ap (strip_last 10) read ∙ strip-end front in
    ap (λ (ls : List (List ℕ)). map (take most) (without_empty_last ls)) (slice_split_at is_line_feed front 10 rest (no_feed front none) refl)
    ∙ (ap (map (take most)) (keeps_first front (slice_split is_line_feed rest) many)
    ∙ (ap (λ l. take most l ∷ kept most rest) (sym piece) ∙ ap (λ l. take most (first_piece 10 all) ∷ kept most l) (sym left)))

fed : (most : ℕ) (bytes : List ℕ) → 0 < length bytes → Cut bytes → Fed most bytes
fed most [] some c = absurd (omega arith)
fed most (x ∷ xs) some (whole none) = last_line most x xs none
fed most (x ∷ xs) some (parts front rest none is) = subst (Fed most) (sym is) (full_line most front rest none)

-- a line was read, if one is left
pub next : (known left : Option (List ℕ)) (found : Bool) (line : List ℕ) → IfSome known (λ xs. IsTrue found ↔ (0 < length xs)) → IfSome known (λ xs. line ≡ take 8193 (first_piece 10 xs))
    → DropsThrough known left 10 → IfSome known (λ xs. IsNext xs left found line)
next None left found line some is drops = tt
next (Some []) left true line some is drops = absurd (omega (arith, some.0 refl))
next (Some []) left false line some is drops = ([], drops, refl)
next (Some (x ∷ xs)) left true line some is drops = (drop_through 10 (x ∷ xs), drops, fed 8193 (x ∷ xs) (some.0 refl) (cut (x ∷ xs)) ∙ ap (λ l. l ∷ heard_lines (drop_through 10 (x ∷ xs))) (sym is))
next (Some (x ∷ xs)) left false line some is drops = absurd (false≢true (some.1 (omega arith)))
