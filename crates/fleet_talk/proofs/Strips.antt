-- Line feeds at the end, and beginnings of lists.
use Rattle.std.proofs.Common.{◌≡◌, ◌≢◌, ◌-◌, ◌+◌, ◌<◌, ◌∙◌, ◌++◌, ◌&&◌, ℕ, zero, suc, Bool, true, false, cond, ltb, eqb, List, [], ◌∷◌, All, length, take, refl, sym, ap, arith, take_all, append_assoc, ne_eqb, eq-eqb, Option, None, Some, IfSome, IsTrue, ◌↔◌, ◌||◌, length-append}
use Rattle.std.specs.Prelude.{slice_index}
use Rattle.std.specs.Io.{IsEmptyOrEndsWith}
use Rattle.std.specs.Io.BufRead.{strip_last, take_through, first_piece}
use Rattle.std.proofs.lemmas.Bool.{lt-ltb, ltb-true}
use Rattle.std.proofs.lemmas.Grind.{common_steps}
use Rattle.std.proofs.lemmas.List.{append-nil, take_more, length_push}

and_false : (b : Bool) → (b && false) ≡ false
and_false true = refl
and_false false = refl

-- nothing is cut where there is no line feed
pub strip-none : (xs : List ℕ) → All (λ x. x ≢ 10) xs → strip_last 10 xs ≡ xs
strip-none [] none = refl
strip-none (x ∷ xs) none =
    let all = x ∷ xs in
    let n = length all in
    let last = slice_index all (n - 1) in
    let ne : last ≢ 10 = none (n - 1) 0 (omega arith) in
    ap (λ b. cond (ltb 0 n && b) (take (n - 1) all) all) (ne_eqb last 10 ne) ∙ ap (λ b. cond b (take (n - 1) all) all) (and_false (ltb 0 n))

last_of : (xs : List ℕ) (n : ℕ) → n ≡ length xs + 1 → slice_index (xs ++ 10 ∷ []) (n - 1) ≡ 10
last_of xs n e = grind (arith, common_steps)

front_of : (xs : List ℕ) (n : ℕ) → n ≡ length xs + 1 → take (n - 1) (xs ++ 10 ∷ []) ≡ xs
front_of xs n e = grind (arith, common_steps)

pub strip-end : (xs : List ℕ) → strip_last 10 (xs ++ 10 ∷ []) ≡ xs
strip-end xs =
    let all = xs ++ 10 ∷ [] in
    let long : length all ≡ length xs + 1 = length_push xs 10 in
    let some : ltb 0 (length all) ≡ true = lt-ltb 0 (length all) (omega arith) in
    let hit : eqb (slice_index all (length all - 1)) 10 ≡ true = eq-eqb _ _ (last_of xs (length all) long) in
    ap (λ b. cond (b && eqb (slice_index all (length all - 1)) 10) (take (length all - 1) all) all) some
    ∙ ap (λ b. cond b (take (length all - 1) all) all) hit
    ∙ front_of xs (length all) long

-- the line feed that may end a line is that of its last part
pub strip-part : (done part : List ℕ) → All (λ x. x ≢ 10) done → IsEmptyOrEndsWith part 10 → strip_last 10 (done ++ part) ≡ done ++ strip_last 10 part
strip-part done [] none ends = ap (strip_last 10) (append-nil done) ∙ (strip-none done none ∙ sym (append-nil done))
strip-part done (x ∷ xs) none ends =
    let part = x ∷ xs in
    let front = take (length part - 1) part in
    let split : part ≡ front ++ 10 ∷ [] = sym (take_all (length part - 1 + 1) part (omega arith)) ∙ take_more part (length part - 1) 0 (omega arith) ∙ ap (λ y. front ++ y ∷ []) (ends (omega arith)) in
    ap (λ l. strip_last 10 (done ++ l)) split ∙ (ap (strip_last 10) (sym (append_assoc done front (10 ∷ [])))
    ∙ (strip-end (done ++ front) ∙ ap (λ l. done ++ l) (sym (strip-end front) ∙ ap (strip_last 10) (sym split))))

-- the beginning of two lists
pub take-parts : (n : ℕ) (xs ys : List ℕ) → take n (xs ++ ys) ≡ take n xs ++ take (n - length (take n xs)) ys
take-parts zero [] ys = refl
take-parts zero (x ∷ xs) ys = refl
take-parts (suc n) [] ys = ap (λ k. take k ys) (whole n)
  where
    whole : (n : ℕ) → suc n ≡ suc n - 0
    whole n = omega arith
take-parts (suc n) (x ∷ xs) ys = ap (λ l. x ∷ l) (take-parts n xs ys ∙ ap (λ k. take n xs ++ take k ys) (sub n (length (take n xs))))
  where
    sub : (a b : ℕ) → a - b ≡ suc a - suc b
    sub a b = omega arith

-- what is kept with one more part
pub kept_more : (most : ℕ) (line line2 done told : List ℕ) → line ≡ take most done → line2 ≡ line ++ take (most - length line) told → line2 ≡ take most (done ++ told)
kept_more most line line2 done told before more =
    more ∙ (ap (λ l. l ++ take (most - length l) told) before ∙ sym (take-parts most done told))

-- the line with a part that does not end it
pub kept_part : (most : ℕ) (line line2 done part : List ℕ) → All (λ x. x ≢ 10) part → line ≡ take most done → line2 ≡ line ++ take (most - length line) (strip_last 10 part) → line2 ≡ take most (done ++ part)
kept_part most line line2 done part none before more =
    kept_more most line line2 done (strip_last 10 part) before more ∙ ap (λ l. take most (done ++ l)) (strip-none part none)

-- the line, once its last part is read
pub kept_line : (most : ℕ) (known : Option (List ℕ)) (line line2 done part : List ℕ) → All (λ x. x ≢ 10) done → IsEmptyOrEndsWith part 10 → line ≡ take most done
    → line2 ≡ line ++ take (most - length line) (strip_last 10 part) → IfSome known (λ xs. done ++ part ≡ take_through 10 xs) → IfSome known (λ xs. line2 ≡ take most (first_piece 10 xs))
kept_line most None line line2 done part none ends before more all = tt
kept_line most (Some xs) line line2 done part none ends before more all =
    kept_more most line line2 done (strip_last 10 part) before more ∙ ap (take most) (sym (strip-part done part none ends) ∙ ap (strip_last 10) all)

-- whether anything was read, with one more part
pub found_more : (found : Bool) (done part : List ℕ) (len : ℕ) → length part ≡ len → (IsTrue found ↔ (0 < length done)) → IsTrue (found || ltb 0 len) ↔ (0 < length (done ++ part))
found_more true done part len long before = (λ _. let some : 0 < length done = before.0 refl in omega (arith, length-append done part), λ _. refl)
found_more false [] part len long before = (λ some. let more : 0 < len = ltb-true 0 len some in omega arith, λ some. lt-ltb 0 len (omega (arith, long)))
found_more false (x ∷ xs) part len long before = let no : false ≡ true = before.1 (omega arith) in absurd cc
