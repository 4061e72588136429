-- Texts of ASCII bytes without a line feed.
use Rattle.std.proofs.Common.{◌≡◌, ◌≢◌, ℕ, zero, suc, ◌+◌, ◌%◌, ◌^◌, ◌<◌, ◌≤◌, Bool, true, false, cond, not, ◌&&◌, ltb, eqb, List, [], ◌∷◌, ◌++◌, get_or, refl, sym, ap, subst, ◌∙◌, ⊎_elim, inl, inr, arith}
use Rattle.std.specs.Prelude.{◌==◌, nat_lt, decimal}
use Rattle.std.specs.Str.{IsAscii, IsUtf8}
use Rattle.std.proofs.lemmas.Bool.{lt-ltb, ltb-true}
use Rattle.std.proofs.lemmas.Fmt.{decimal_by_steps}
use Rattle.std.proofs.lemmas.Str.{IsUtf8-from_ascii}
use Rattle.std.specs.List.{AllByRecursion}
use Rattle.fleet_map.specs.Text.{is_line_feed}

-- whether the byte is ASCII and no line feed
abbrev pub is_line_byte : ℕ → Bool
is_line_byte b = nat_lt b 128 && not (b == 10)

abbrev pub are_line_bytes : List ℕ → Bool
are_line_bytes [] = true
are_line_bytes (b ∷ bs) = is_line_byte b && are_line_bytes bs

-- a byte more
pub byte-then : (b : ℕ) (bs : List ℕ) → is_line_byte b ≡ true → are_line_bytes bs ≡ true → are_line_bytes (b ∷ bs) ≡ true
byte-then b bs one more = rw (one, more) refl

both-true : (a b : Bool) → a && b ≡ true → (a ≡ true) × (b ≡ true)
both-true true b e = (refl, e)
both-true false b e = absurd cc

-- a text more
pub text-then : (xs ys : List ℕ) → are_line_bytes xs ≡ true → are_line_bytes ys ≡ true → are_line_bytes (xs ++ ys) ≡ true
text-then [] ys one more = more
text-then (b ∷ xs) ys one more =
    let here = both-true (is_line_byte b) (are_line_bytes xs) one in
    byte-then b (xs ++ ys) here.0 (text-then xs ys here.1 more)

digit-byte : (d : ℕ) → d < 10 → is_line_byte (48 + d) ≡ true
digit-byte zero l = refl
digit-byte (suc zero) l = refl
digit-byte (suc (suc zero)) l = refl
digit-byte (suc (suc (suc zero))) l = refl
digit-byte (suc (suc (suc (suc zero)))) l = refl
digit-byte (suc (suc (suc (suc (suc zero))))) l = refl
digit-byte (suc (suc (suc (suc (suc (suc zero)))))) l = refl
digit-byte (suc (suc (suc (suc (suc (suc (suc zero))))))) l = refl
digit-byte (suc (suc (suc (suc (suc (suc (suc (suc zero)))))))) l = refl
digit-byte (suc (suc (suc (suc (suc (suc (suc (suc (suc zero))))))))) l = refl
digit-byte (suc (suc (suc (suc (suc (suc (suc (suc (suc (suc n)))))))))) l = absurd (omega (arith, l))

-- digits
pub decimal-line : (n : ℕ) → n < 2 ^ 64 → are_line_bytes (decimal n) ≡ true
decimal-line n small = decimal_by_steps (λ m ds. are_line_bytes ds ≡ true)
    (λ m l. byte-then (48 + m) [] (digit-byte m l) refl)
    (λ m ds l h. text-then ds ((48 + m % 10) ∷ []) h (byte-then (48 + m % 10) [] (digit-byte (m % 10) (omega arith)) refl)) n small

-- ---- what follows

byte-no_feed : (b : ℕ) → is_line_byte b ≡ true → is_line_feed b ≡ false
byte-no_feed b e = flip (b == 10) (both-true (nat_lt b 128) (not (b == 10)) e).1
  where
    flip : (x : Bool) → not x ≡ true → x ≡ false
    flip true h = absurd cc
    flip false h = refl

byte-ascii : (b : ℕ) → is_line_byte b ≡ true → b < 128
byte-ascii b e = ltb-true b 128 (both-true (nat_lt b 128) (not (b == 10)) e).0

pub line-no_feed : (bs : List ℕ) → are_line_bytes bs ≡ true → AllByRecursion (λ b. is_line_feed b ≡ false) bs
line-no_feed [] e = tt
line-no_feed (b ∷ bs) e = let h = both-true (is_line_byte b) (are_line_bytes bs) e in (byte-no_feed b h.0, line-no_feed bs h.1)

line-ascii : (bs : List ℕ) → are_line_bytes bs ≡ true → IsAscii bs
line-ascii [] e i = omega arith
line-ascii (b ∷ bs) e zero = byte-ascii b (both-true (is_line_byte b) (are_line_bytes bs) e).0
line-ascii (b ∷ bs) e (suc i) = line-ascii bs (both-true (is_line_byte b) (are_line_bytes bs) e).1 i

pub line-utf8 : (bs : List ℕ) → are_line_bytes bs ≡ true → IsUtf8 bs
line-utf8 bs e = IsUtf8-from_ascii bs (line-ascii bs e)
