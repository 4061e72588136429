-- Texts that are written into a list byte by byte, as far as there is room.
use Rattle.std.proofs.Common.{◌≡◌, ℕ, zero, suc, ◌+◌, ◌<◌, ◌≤◌, List, [], ◌∷◌, ◌++◌, length, take, get_or, set, sym, refl, ap, ◌∙◌, arith, append_assoc, length-append}
use Rattle.std.proofs.lemmas.List.{take_more}
use Rattle.fleet_c.specs.Sentences.{over}

take-nil : (n : ℕ) (none : List ℕ) → length none ≡ 0 → take n none ≡ none
take-nil zero [] l = refl
take-nil (suc n) [] l = refl
take-nil n (y ∷ ys) l = absurd (omega arith)

pub over-nil : (before : List ℕ) → before ≡ over before []
over-nil before = sym (ap (λ t. t ++ before) (take-nil (length before) [] refl))

-- one more byte
over-push : (before text : List ℕ) (byte : ℕ) → over before (text ++ byte ∷ []) ≡ set (over before text) (length text) byte
over-push [] [] byte = refl
over-push [] (t ∷ ts) byte = refl
over-push (y ∷ ys) [] byte = ap (λ t. byte ∷ (t ++ ys)) (take-nil (length ys) [] refl)
over-push (y ∷ ys) (t ∷ ts) byte = ap (λ l. t ∷ l) (over-push ys ts byte)

set-past : (xs : List ℕ) (k x : ℕ) → length xs ≤ k → set xs k x ≡ xs
set-past [] k x l = refl
set-past (y ∷ ys) zero x l = absurd (omega arith)
set-past (y ∷ ys) (suc k) x l = ap (λ l. y ∷ l) (set-past ys k x (omega arith))

short : (xs : List ℕ) (k : ℕ) → k < length xs → length (take k xs) ≡ k
short [] k l = absurd (omega arith)
short (x ∷ xs) zero l = refl
short (x ∷ xs) (suc k) l = ap suc (short xs k (omega arith))

-- the byte at the place after the text is written
over-next : (before told bytes now : List ℕ) (index : ℕ) → index < length bytes → now ≡ over before (told ++ take index bytes)
    → set now (length told + index) (get_or bytes index 0) ≡ over before (told ++ take (index + 1) bytes)
over-next before told bytes now index l is =
    let text = told ++ take index bytes in
    let place : length told + index ≡ length text = omega (arith, length-append told (take index bytes), short bytes index l) in
    rw (is, place) (sym (over-push before text (get_or bytes index 0)) ∙ ap (over before) (append_assoc told (take index bytes) (get_or bytes index 0 ∷ []) ∙ ap (λ t. told ++ t) (sym (take_more bytes index 0 l))))

pub over-at : (before told bytes now : List ℕ) (at index : ℕ) → at ≡ length told → index < length bytes → now ≡ over before (told ++ take index bytes)
    → set now (at + index) (get_or bytes index 0) ≡ over before (told ++ take (index + 1) bytes)
over-at before told bytes now at index e l is = rw e (over-next before told bytes now index l is)

-- past the end of the list nothing is written
pub over-past : (before told bytes now : List ℕ) (at index : ℕ) → at ≡ length told → index < length bytes → now ≡ over before (told ++ take index bytes) → length now ≤ at + index
    → now ≡ over before (told ++ take (index + 1) bytes)
over-past before told bytes now at index e l is past = sym (set-past now (at + index) (get_or bytes index 0) past) ∙ over-at before told bytes now at index e l is
