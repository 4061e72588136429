-- Texts without some bytes: digits, lines, and parts.
use Rattle.std.proofs.Common.{◌≡◌, ◌≢◌, ℕ, zero, suc, ◌+◌, ◌-◌, ◌*◌, ◌/◌, ◌%◌, ◌<◌, ◌≤◌, ◌^◌, Bool, true, false, ◌==◌, List, [], ◌∷◌, ◌++◌, length, take, drop, get_or, fold, map, All, Some, decimal, refl, sym, ap, ◌∙◌, subst, arith}
use Rattle.std.specs.Char.{is_ascii_digit, digit_value}
use Rattle.std.specs.List.{slice_split, list_all, position, position_or_len}
use Rattle.std.specs.Str.Lines.{strip_carriage_return}
use Rattle.std.specs.Str.Parse.{AllDigits, digits_value_after}
use Rattle.std.proofs.lemmas.Bool.{ne_eqb, lt-ltb, eq-eqb}
use Rattle.std.proofs.lemmas.Fmt.{decimal_is_IsNumeral}
use Rattle.std.proofs.lemmas.Str.{digit_value_digit}
use Rattle.std.proofs.lemmas.Str.Parse.{digit_from_value}
use Rattle.std.proofs.lemmas.List.{length-append, take_at, drop_at, append_assoc}
use Rattle.std.proofs.lemmas.List.Elements.{All-nil, All-cons, All-head, All-tail, All-append, All-weaker, All-get_or}
use Rattle.std.proofs.lemmas.List.Splits.{slice_split_at, length-slice_split}
use Rattle.fleet_map.specs.Text.{is_line_feed, is_empty, number_of, without_empty_last, lines_of}
use Rattle.fleet_map.proofs.TextLemmas.{keeps_first}
use Rattle.fleet_plans.specs.Cells.{is_comma, parts_of}
use Rattle.fleet_plans.specs.Head.{split_once}

-- ---- digits

-- brackets, commas, digits
abbrev pub IsLow : ℕ → Type 0
IsLow b = (40 ≤ b) × (b < 58)

-- digits alone
abbrev pub IsDigit : ℕ → Type 0
IsDigit b = (48 ≤ b) × (b < 58)

digits_are : (ds : List ℕ) → AllDigits 10 ds → All IsDigit ds
digits_are [] d = All-nil IsDigit
digits_are (c ∷ cs) d = let k = digit_from_value c d.0 in All-cons IsDigit c cs (omega arith, omega arith) (digits_are cs d.1)

pub decimal_digits : (n : ℕ) → n < 2 ^ 64 → All IsDigit (decimal n)
decimal_digits n small = digits_are (decimal n) (decimal_is_IsNumeral n small).0.1

abbrev added : ℕ → ℕ → ℕ
added n d = 10 * n + (d - 48)

digits_fold : (n : ℕ) (ds : List ℕ) → AllDigits 10 ds → fold added n ds ≡ digits_value_after 10 n ds
digits_fold n [] d = refl
digits_fold n (c ∷ cs) d =
    let k = digit_value_digit c (digit_from_value c d.0) in
    let same : added n c ≡ n * 10 + digit_value c = omega (arith, k) in
    ap (λ (m : ℕ). fold added m cs) same ∙ digits_fold (n * 10 + digit_value c) cs d.1

digits_pass : (ds : List ℕ) → AllDigits 10 ds → list_all is_ascii_digit ds ≡ true
digits_pass [] d = refl
digits_pass (c ∷ cs) d =
    let k = digit_from_value c d.0 in
    let here : is_ascii_digit c ≡ true = grind arith in
    rw here (digits_pass cs d.1)

digits_number : (ds : List ℕ) (n : ℕ) → 0 < length ds → AllDigits 10 ds → digits_value_after 10 0 ds ≡ n → number_of ds ≡ Some n
digits_number [] n some d is = absurd (omega arith)
digits_number (c ∷ cs) n some d is = rw (digits_pass (c ∷ cs) d) (ap (λ (m : ℕ). Some m) (digits_fold 0 (c ∷ cs) d ∙ is))

-- a number reads as itself
pub number_reads : (n : ℕ) → n < 2 ^ 64 → number_of (decimal n) ≡ Some n
number_reads n small = let is = decimal_is_IsNumeral n small in digits_number (decimal n) n is.0.0 is.0.1 is.1

-- ---- lines

no_return : (line : List ℕ) → All (λ b. 14 ≤ b) line → strip_carriage_return line ≡ line
no_return [] plain = refl
no_return (b ∷ bs) plain =
    let last : 14 ≤ get_or (b ∷ bs) (length (b ∷ bs) - 1) 0 = All-get_or (λ x. 14 ≤ x) (b ∷ bs) (length (b ∷ bs) - 1) 0 (omega arith) plain in
    rw (ne_eqb (get_or (b ∷ bs) (length (b ∷ bs) - 1) 0) 13 (λ e. omega (arith, e, last))) refl

-- a line, and those after it
pub line_more : (line rest : List ℕ) → All (λ b. 14 ≤ b) line → lines_of (line ++ 10 ∷ rest) ≡ line ∷ lines_of rest
line_more line rest plain =
    let parts = slice_split is_line_feed rest in
    let free : All (λ b. is_line_feed b ≡ false) line = All-weaker (λ b. 14 ≤ b) (λ b. is_line_feed b ≡ false) (λ b from. ne_eqb b 10 (λ e. omega (arith, e, from))) line plain in
    ap (λ (ps : List (List ℕ)). map strip_carriage_return (without_empty_last ps)) (slice_split_at is_line_feed line 10 rest free refl)
    ∙ (ap (λ (ps : List (List ℕ)). map strip_carriage_return ps) (keeps_first line parts (omega (arith, length-slice_split is_line_feed rest)))
    ∙ ap (λ (l : List ℕ). l ∷ lines_of rest) (no_return line plain))

-- ---- parts between commas

pub part_more : (part rest : List ℕ) → All (λ b. b ≢ 44) part → parts_of (part ++ 44 ∷ rest) ≡ part ∷ parts_of rest
part_more part rest plain =
    let parts = slice_split is_comma rest in
    let free : All (λ b. is_comma b ≡ false) part = All-weaker (λ b. b ≢ 44) (λ b. is_comma b ≡ false) (λ b other. ne_eqb b 44 other) part plain in
    ap without_empty_last (slice_split_at is_comma part 44 rest free refl) ∙ keeps_first part parts (omega (arith, length-slice_split is_comma rest))

-- ---- what stands before a byte

first_at : (p : ℕ → Bool) (key rest : List ℕ) (b : ℕ) → All (λ x. p x ≡ false) key → p b ≡ true → position_or_len p (key ++ b ∷ rest) ≡ length key
first_at p [] rest b free is = rw is refl
first_at p (x ∷ xs) rest b free is =
    let more = first_at p xs rest b (All-tail (λ y. p y ≡ false) x xs free) is in
    rw (All-head (λ y. p y ≡ false) x xs free) (omega (arith, more))

position_at : (p : ℕ → Bool) (key rest : List ℕ) (b : ℕ) → All (λ x. p x ≡ false) key → p b ≡ true → position p (key ++ b ∷ rest) ≡ Some (length key)
position_at p key rest b free is =
    let at = first_at p key rest b free is in
    let long = length-append key (b ∷ rest) in
    let within : position_or_len p (key ++ b ∷ rest) < length (key ++ b ∷ rest) = omega (arith, at, long) in
    rw (lt-ltb (position_or_len p (key ++ b ∷ rest)) (length (key ++ b ∷ rest)) within) (ap (λ (n : ℕ). Some n) at)

pub splits : (byte : ℕ) (key rest : List ℕ) → All (λ b. b ≢ byte) key → split_once byte (key ++ byte ∷ rest) ≡ Some (key, rest)
splits byte key rest plain =
    let free : All (λ b. (b == byte) ≡ false) key = All-weaker (λ b. b ≢ byte) (λ b. (b == byte) ≡ false) (λ b other. ne_eqb b byte other) key plain in
    let back : drop (length key + 1) (key ++ byte ∷ rest) ≡ rest = ap (λ (l : List ℕ). drop (length key + 1) l) (sym (append_assoc key (byte ∷ []) rest)) ∙ drop_at (key ++ byte ∷ []) rest (length key + 1) (length-append key (byte ∷ [])) in
    rw (position_at (λ b. b == byte) key rest byte free (eq-eqb byte byte refl), take_at key (byte ∷ rest) (length key) refl, back) refl
