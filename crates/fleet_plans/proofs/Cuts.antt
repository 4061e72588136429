-- One more placement in a list of cells, and which cells a placement has.
use Rattle.std.proofs.Common.{◌≡◌, ℕ, suc, zero, ◌-◌, ◌<◌, ◌≤◌, List, [], ◌∷◌, ◌++◌, length, take, drop, get_or, refl, sym, ap, ◌∙◌, subst, arith}
use Rattle.std.proofs.lemmas.List.{length-append, length-drop, get_or_past, drop-append-le, take-append-le}
use Rattle.std.proofs.Math.Seq.{drop-append_seam, take-length}
use Rattle.fleet_plans.specs.Cut.{cut, IsCut}

pub is_cut_more : (from : ℕ) (ends : List ℕ) (n m : ℕ) → n ≤ m → IsCut from ends n → IsCut from (ends ++ m ∷ []) m
is_cut_more from [] n m more is = (omega (arith, more, is), omega arith, refl)
is_cut_more from (end ∷ ends) n m more is = (is.0, omega (arith, is.1, more), is_cut_more end ends n m more is.2)

pub is_within : (from : ℕ) (ends : List ℕ) (n : ℕ) → IsCut from ends n → from ≤ n
is_within from [] n is = omega (arith, is)
is_within from (end ∷ ends) n is = omega (arith, is.0, is.1)

last_part : (cells row : List ℕ) (from : ℕ) → from ≡ length cells → take (length (cells ++ row) - from) (drop from (cells ++ row)) ≡ row
last_part cells row from same = subst (λ (n : ℕ). take (length (cells ++ row) - n) (drop n (cells ++ row)) ≡ row) (sym same) here
  where
    here : take (length (cells ++ row) - length cells) (drop (length cells) (cells ++ row)) ≡ row
    here =
        let rest : drop (length cells) (cells ++ row) ≡ row = drop-append_seam cells row in
        let count : length (cells ++ row) - length cells ≡ length row = omega (arith, length-append cells row) in
        rw (rest, count) (take-length row)

same_part : (cells row : List ℕ) (from end : ℕ) → from ≤ end → end ≤ length cells → take (end - from) (drop from (cells ++ row)) ≡ take (end - from) (drop from cells)
same_part cells row from end rises inside =
    let front : drop from (cells ++ row) ≡ drop from cells ++ row = drop-append-le from cells row (omega (arith, rises, inside)) in
    rw front (take-append-le (end - from) (drop from cells) row (omega (arith, length-drop from cells, rises, inside)))

pub cut_more : (from : ℕ) (ends cells row : List ℕ) → IsCut from ends (length cells)
    → cut from (ends ++ length (cells ++ row) ∷ []) (cells ++ row) ≡ cut from ends cells ++ row ∷ []
cut_more from [] cells row is = ap (λ (x : List ℕ). x ∷ []) (last_part cells row from is)
cut_more from (end ∷ ends) cells row is =
    ap (λ (x : List ℕ). x ∷ cut end (ends ++ length (cells ++ row) ∷ []) (cells ++ row)) (same_part cells row from end is.0 is.1)
    ∙ ap (λ (xs : List (List ℕ)). take (end - from) (drop from cells) ∷ xs) (cut_more end ends cells row is.2)

pub length-cut : (from : ℕ) (ends cells : List ℕ) → length (cut from ends cells) ≡ length ends
length-cut from [] cells = refl
length-cut from (end ∷ ends) cells = ap suc (length-cut end ends cells)

-- where a placement begins and ends
pub cut_at : (from : ℕ) (ends cells : List ℕ) (t : ℕ) → t < length ends
    → get_or (cut from ends cells) t [] ≡ take (get_or ends t 0 - get_or (from ∷ ends) t 0) (drop (get_or (from ∷ ends) t 0) cells)
cut_at from [] cells t less = absurd (omega arith)
cut_at from (end ∷ ends) cells zero less = refl
cut_at from (end ∷ ends) cells (suc t) less = cut_at end ends cells t (omega arith)

pub rising : (from : ℕ) (ends : List ℕ) (n t : ℕ) → IsCut from ends n → t < length ends → get_or (from ∷ ends) t 0 ≤ get_or ends t 0
rising from [] n t is less = absurd (omega arith)
rising from (end ∷ ends) n zero is less = is.0
rising from (end ∷ ends) n (suc t) is less = rising end ends n t is.2 (omega arith)

pub below : (from : ℕ) (ends : List ℕ) (n t : ℕ) → IsCut from ends n → t < length ends → get_or ends t 0 ≤ n
below from [] n t is less = absurd (omega arith)
below from (end ∷ ends) n zero is less = is.1
below from (end ∷ ends) n (suc t) is less = below end ends n t is.2 (omega arith)

pub place_past : (from : ℕ) (ends cells : List ℕ) (t : ℕ) → length ends ≤ t → get_or (cut from ends cells) t [] ≡ []
place_past from ends cells t past = get_or_past (cut from ends cells) t [] (omega (arith, past, length-cut from ends cells))
