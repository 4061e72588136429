-- The first part of a list, and reading cells part by part.
use Rattle.std.proofs.Common.{◌≡◌, ℕ, ◌+◌, ◌-◌, ◌<◌, List, [], ◌∷◌, ◌++◌, length, take, drop, Option, Some, None, refl, sym, ap, ◌∙◌, arith}
use Rattle.std.specs.List.{slice_split, position}
use Rattle.std.specs.Option.{option_map, option_and_then}
use Rattle.std.proofs.lemmas.List.{append_assoc, append-nil}
use Rattle.std.proofs.lemmas.List.Splits.{length-slice_split}
use Rattle.fleet_map.specs.Text.{without_empty_last}
use Rattle.fleet_map.proofs.TextLemmas.{split_none, split_some, keeps_first, behind}
use Rattle.fleet_plans.specs.Cells.{is_comma, parts_of, pair_in, cells_in, faced_in, faced_cells}

parts_front : (s : List ℕ) (k : ℕ) → position is_comma s ≡ Some k → parts_of s ≡ take k s ∷ parts_of (drop (k + 1) s)
parts_front s k e =
    let rest = drop (k + 1) s in
    let many : 0 < length (slice_split is_comma rest) = omega (arith, length-slice_split is_comma rest) in
    ap without_empty_last (split_some is_comma s k e) ∙ keeps_first (take k s) (slice_split is_comma rest) many

pub parts_first : (s : List ℕ) (k : ℕ) → position is_comma s ≡ Some k → parts_of s ≡ take k s ∷ parts_of (take (length s - (k + 1)) (drop (k + 1) s))
parts_first s k e = rw (behind s (k + 1)) (parts_front s k e)

pub parts_last : (s : List ℕ) → 0 < length s → position is_comma s ≡ None → parts_of s ≡ s ∷ []
parts_last [] h e = absurd (omega arith)
parts_last (b ∷ s) h e = ap without_empty_last (split_none is_comma (b ∷ s) e)

-- all cells, where these were read and those parts are left
abbrev pub joined : List ℕ → Option (List ℕ) → Option (List ℕ)
joined xs o = option_map (λ ys. xs ++ ys) o

abbrev pub IsRead : ℕ → ℕ → List (List ℕ) → List ℕ → List (List ℕ) → Type 0
IsRead width height parts cells rest = cells_in width height parts ≡ joined cells (cells_in width height rest)

pub none_read : (width height : ℕ) (parts : List (List ℕ)) → IsRead width height parts [] parts
none_read width height parts = same (cells_in width height parts)
  where
    same : (o : Option (List ℕ)) → o ≡ joined [] o
    same None = refl
    same (Some ys) = refl

pub one_cell_more : (width height : ℕ) (parts : List (List ℕ)) (cells : List ℕ) (a b : List ℕ) (rest : List (List ℕ)) (c : ℕ) → pair_in width height a b ≡ Some c
    → IsRead width height parts cells (a ∷ b ∷ rest) → IsRead width height parts (cells ++ c ∷ []) rest
one_cell_more width height parts cells a b rest c e r =
    r ∙ (ap (λ (o : Option ℕ). joined cells (option_and_then (λ m. option_map (λ ns. m ∷ ns) (cells_in width height rest)) o)) e ∙ shift (cells_in width height rest))
  where
    shift : (o : Option (List ℕ)) → joined cells (option_map (λ ns. c ∷ ns) o) ≡ joined (cells ++ c ∷ []) o
    shift None = refl
    shift (Some ys) = ap (λ (l : List ℕ). Some l) (sym (append_assoc cells (c ∷ []) ys))

pub no_cell : (width height : ℕ) (parts : List (List ℕ)) (cells : List ℕ) (a b : List ℕ) (rest : List (List ℕ)) → pair_in width height a b ≡ None
    → IsRead width height parts cells (a ∷ b ∷ rest) → None ≡ cells_in width height parts
no_cell width height parts cells a b rest e r =
    sym (r ∙ ap (λ (o : Option ℕ). joined cells (option_and_then (λ m. option_map (λ ns. m ∷ ns) (cells_in width height rest)) o)) e)

pub half_a_cell : (width height : ℕ) (parts : List (List ℕ)) (cells : List ℕ) (a : List ℕ) → IsRead width height parts cells (a ∷ []) → None ≡ cells_in width height parts
half_a_cell width height parts cells a r = sym r

pub all_read : (width height : ℕ) (parts : List (List ℕ)) (cells : List ℕ) → IsRead width height parts cells [] → Some cells ≡ cells_in width height parts
all_read width height parts cells r = sym (r ∙ ap (λ (l : List ℕ). Some l) (nil cells))
  where
    nil : (xs : List ℕ) → xs ++ [] ≡ xs
    nil [] = refl
    nil (x ∷ xs) = ap (λ l. x ∷ l) (nil xs)

-- the same of cells with directions
abbrev pub AreFaced : ℕ → ℕ → List (List ℕ) → List ℕ → List (List ℕ) → Type 0
AreFaced width height parts cells rest = faced_cells width height parts ≡ joined cells (faced_cells width height rest)

pub none_faced : (width height : ℕ) (parts : List (List ℕ)) → AreFaced width height parts [] parts
none_faced width height parts = same (faced_cells width height parts)
  where
    same : (o : Option (List ℕ)) → o ≡ joined [] o
    same None = refl
    same (Some ys) = refl

module _ (width height : ℕ) (parts : List (List ℕ)) (cells a b d : List ℕ) (rest : List (List ℕ)) (r : AreFaced width height parts cells (a ∷ b ∷ d ∷ rest)) where
  abbrev Goes : Option ℕ → Option (List ℕ)
  Goes o = joined cells (option_and_then (λ m. option_map (λ ns. m ∷ ns) (faced_cells width height rest)) o)

  pub one_faced_more : (c : ℕ) → faced_in width height a b d ≡ Some c → AreFaced width height parts (cells ++ c ∷ []) rest
  one_faced_more c e = r ∙ (ap Goes e ∙ shift (faced_cells width height rest))
    where
      shift : (o : Option (List ℕ)) → joined cells (option_map (λ ns. c ∷ ns) o) ≡ joined (cells ++ c ∷ []) o
      shift None = refl
      shift (Some ys) = ap (λ (l : List ℕ). Some l) (sym (append_assoc cells (c ∷ []) ys))

  pub no_faced : faced_in width height a b d ≡ None → None ≡ faced_cells width height parts
  no_faced e = sym (r ∙ ap Goes e)

pub all_faced : (width height : ℕ) (parts : List (List ℕ)) (cells : List ℕ) → AreFaced width height parts cells [] → Some cells ≡ faced_cells width height parts
all_faced width height parts cells r = sym (r ∙ ap (λ (l : List ℕ). Some l) (append-nil cells))

-- all that stands after a place, as a range of a slice has it
pub rest_of : (s : List ℕ) (k : ℕ) → take (length s - k) (drop k s) ≡ drop k s
rest_of s k = behind s k
