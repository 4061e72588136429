-- Reading the start cells word by word.
use Rattle.std.proofs.Common.{◌≡◌, ℕ, ◌+◌, ◌<◌, ◌≤◌, Bool, true, false, cond, ◌&&◌, leb, List, [], ◌∷◌, ◌++◌, length, Option, Some, None, refl, sym, ap, ◌∙◌, arith}
use Rattle.std.proofs.lemmas.List.{length-append, append_assoc}
use Rattle.std.proofs.lemmas.Bool.{le-leb, lt-leb}
use Rattle.std.specs.Option.{option_map, option_and_then}
use Rattle.fleet_script.specs.Numbers.{number_in, most32, numbers_in}
use Rattle.fleet_script.specs.Script.{starts_within}

-- the numbers of all words, where these were read and those words are left
abbrev pub joined : List ℕ → Option (List ℕ) → Option (List ℕ)
joined xs o = option_map (λ ys. xs ++ ys) o

pub record IsRead (most : ℕ) (words : List (List ℕ)) (cells : List ℕ) (rest : List (List ℕ)) : Type 0 where
  pub numbers : numbers_in words ≡ joined cells (numbers_in rest)
  pub count : length words ≡ length cells + length rest
  pub few : length cells ≤ most

pub none_read : (most : ℕ) (words : List (List ℕ)) → IsRead most words [] words
none_read most words = record { numbers = same (numbers_in words); count = omega arith; few = omega arith }
  where
    same : (o : Option (List ℕ)) → o ≡ joined [] o
    same None = refl
    same (Some ys) = refl

pub one_more : (most : ℕ) (words : List (List ℕ)) (cells : List ℕ) (word : List ℕ) (rest : List (List ℕ)) (n : ℕ) → number_in most32 word ≡ Some n → length cells < most → IsRead most words cells (word ∷ rest) → IsRead most words (cells ++ n ∷ []) rest
one_more most words cells word rest n e less r = record {
  numbers = r.numbers ∙ (ap (λ (o : Option ℕ). joined cells (option_and_then (λ m. option_map (λ ns. m ∷ ns) (numbers_in rest)) o)) e ∙ shift (numbers_in rest));
  count = omega (arith, r.count, length-append cells (n ∷ []), long);
  few = omega (arith, less, length-append cells (n ∷ []));
}
  where
    long : length (word ∷ rest) ≡ length rest + 1
    long = grind arith

    shift : (o : Option (List ℕ)) → joined cells (option_map (λ ns. n ∷ ns) o) ≡ joined (cells ++ n ∷ []) o
    shift None = refl
    shift (Some ys) = ap (λ (l : List ℕ). Some l) (sym (append_assoc cells (n ∷ []) ys))

if_none : (b : Bool) → let none : Option (List ℕ) = None in cond b none none ≡ none
if_none true = refl
if_none false = refl

pub no_number : (most : ℕ) (words : List (List ℕ)) (cells : List ℕ) (word : List ℕ) (rest : List (List ℕ)) → number_in most32 word ≡ None → IsRead most words cells (word ∷ rest) → None ≡ starts_within most words
no_number most words cells word rest e r =
    let none : numbers_in words ≡ None = r.numbers ∙ ap (λ (o : Option ℕ). joined cells (option_and_then (λ m. option_map (λ ns. m ∷ ns) (numbers_in rest)) o)) e in
    rw none (sym (if_none (leb 1 (length words) && leb (length words) most)))

pub too_many : (most : ℕ) (words : List (List ℕ)) (cells : List ℕ) (word : List ℕ) (rest : List (List ℕ)) → length cells ≡ most → IsRead most words cells (word ∷ rest) → None ≡ starts_within most words
too_many most words cells word rest e r =
    let long : length (word ∷ rest) ≡ length rest + 1 = grind arith in
    let over : leb (length words) most ≡ false = lt-leb (length words) most (omega (arith, r.count, e, long)) in
    rw over (none (leb 1 (length words)))
  where
    none : (b : Bool) → None ≡ cond (b && false) (numbers_in words) None
    none true = refl
    none false = refl

pub all_read : (most : ℕ) (words : List (List ℕ)) (cells : List ℕ) → 0 < length cells → IsRead most words cells [] → Some cells ≡ starts_within most words
all_read most words cells some r =
    let numbers : numbers_in words ≡ Some cells = r.numbers ∙ ap (λ (l : List ℕ). Some l) (nil cells) in
    let low : leb 1 (length words) ≡ true = le-leb 1 (length words) (omega (arith, r.count, some)) in
    let high : leb (length words) most ≡ true = le-leb (length words) most (omega (arith, r.count, r.few)) in
    rw (low, high, numbers) refl
  where
    nil : (xs : List ℕ) → xs ++ [] ≡ xs
    nil [] = refl
    nil (x ∷ xs) = ap (λ l. x ∷ l) (nil xs)

pub no_words : (most : ℕ) (words : List (List ℕ)) → IsRead most words [] [] → None ≡ starts_within most words
no_words most words r =
    let low : leb 1 (length words) ≡ false = lt-leb 1 (length words) (omega (arith, r.count)) in
    rw low refl
