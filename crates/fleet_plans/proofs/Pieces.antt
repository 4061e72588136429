-- The first part before a dash, and reading the cells of a path part by part.
use Rattle.std.proofs.Common.{◌≡◌, ℕ, zero, suc, ◌+◌, ◌-◌, ◌<◌, ◌≤◌, inl, inr, List, [], ◌∷◌, ◌++◌, length, take, drop, slice_index_or, Option, Some, None, refl, sym, ap, subst, ◌∙◌, arith}
use Rattle.std.specs.List.{slice_split, position}
use Rattle.std.specs.Option.{option_map, option_and_then}
use Rattle.std.proofs.lemmas.Bool.{cases_eq}
use Rattle.std.proofs.lemmas.List.{append_assoc, append-nil, length-append, get_or_append_left, get_or_push}
use Rattle.std.proofs.lemmas.List.Splits.{length-slice_split}
use Rattle.fleet_map.specs.Text.{without_empty_last}
use Rattle.fleet_map.proofs.TextLemmas.{split_none, split_some, keeps_first, behind}
use Rattle.fleet_plans.specs.Agents.{is_dash, pieces, led_cell, cells_led, agent_in, AreAgents}
use Rattle.fleet_plans.proofs.Parts.{joined}

pieces_front : (s : List ℕ) (k : ℕ) → position is_dash s ≡ Some k → pieces s ≡ take k s ∷ pieces (drop (k + 1) s)
pieces_front s k e =
    let rest = drop (k + 1) s in
    let many : 0 < length (slice_split is_dash rest) = omega (arith, length-slice_split is_dash rest) in
    ap without_empty_last (split_some is_dash s k e) ∙ keeps_first (take k s) (slice_split is_dash rest) many

pub pieces_first : (s : List ℕ) (k : ℕ) → position is_dash s ≡ Some k → pieces s ≡ take k s ∷ pieces (take (length s - (k + 1)) (drop (k + 1) s))
pieces_first s k e = rw (behind s (k + 1)) (pieces_front s k e)

pub pieces_last : (s : List ℕ) → 0 < length s → position is_dash s ≡ None → pieces s ≡ s ∷ []
pieces_last [] h e = absurd (omega arith)
pieces_last (b ∷ s) h e = ap without_empty_last (split_none is_dash (b ∷ s) e)

-- ---- cells that were read, and parts that are left

module _ (w h lead : ℕ) (all : Option (List ℕ)) (cells part : List ℕ) (parts : List (List ℕ)) (is : all ≡ joined cells (cells_led w h lead (part ∷ parts))) where
  pub led_more : (c : ℕ) → led_cell w h lead part ≡ Some c → all ≡ joined (cells ++ c ∷ []) (cells_led w h 62 parts)
  led_more c e =
      is
      ∙ (ap (λ (o : Option ℕ). joined cells (option_and_then (λ m. option_map (λ ns. m ∷ ns) (cells_led w h 62 parts)) o)) e ∙ shift (cells_led w h 62 parts))
    where
      shift : (o : Option (List ℕ)) → joined cells (option_map (λ ns. c ∷ ns) o) ≡ joined (cells ++ c ∷ []) o
      shift None = refl
      shift (Some ys) = ap (λ (l : List ℕ). Some l) (sym (append_assoc cells (c ∷ []) ys))

  pub led_none : led_cell w h lead part ≡ None → None ≡ all
  led_none e = sym (is ∙ ap (λ (o : Option ℕ). joined cells (option_and_then (λ m. option_map (λ ns. m ∷ ns) (cells_led w h 62 parts)) o)) e)

pub led_begin : (o : Option (List ℕ)) → o ≡ joined [] o
led_begin None = refl
led_begin (Some ys) = refl

pub led_all : (all : Option (List ℕ)) (cells : List ℕ) → all ≡ joined cells (Some []) → Some cells ≡ all
led_all all cells is = sym (is ∙ ap (λ (l : List ℕ). Some l) (append-nil cells))

-- ---- lines that were read, and lines that are left

pub drop_first : (ls : List (List ℕ)) (k : ℕ) (x : List ℕ) (xs : List (List ℕ)) → drop k ls ≡ x ∷ xs → (k < length ls) × (slice_index_or ls k [] ≡ x) × (drop (k + 1) ls ≡ xs)
drop_first [] zero x xs e = absurd cc
drop_first [] (suc k) x xs e = absurd cc
drop_first (l ∷ ls) zero x xs e = (omega arith, cc, cc)
drop_first (l ∷ ls) (suc k) x xs e =
    let more = drop_first ls k x xs e in
    let same : suc (k + 1) ≡ suc k + 1 = omega arith in
    (omega (arith, more.0), more.1, subst (λ (n : ℕ). drop n (l ∷ ls) ≡ xs) same more.2)

pub drop_none : (ls : List (List ℕ)) (k : ℕ) → drop k ls ≡ [] → length ls ≤ k
drop_none [] k e = omega arith
drop_none (l ∷ ls) zero e = absurd cc
drop_none (l ∷ ls) (suc k) e = let more = drop_none ls k e in omega (arith, more)

pub agents_more : (w h : ℕ) (lines paths : List (List ℕ)) (path : List ℕ) → AreAgents w h lines (length paths) paths → agent_in w h (length paths) (slice_index_or lines (length paths) []) ≡ Some path
    → AreAgents w h lines (length (paths ++ path ∷ [])) (paths ++ path ∷ [])
agents_more w h lines paths path was here = record {
  each_one = refl;
  path = λ k less. elim (cases_eq k (length paths)) [
    | inl same ↦
        let P : ℕ → Type 0 = λ x. agent_in w h x (slice_index_or lines x []) ≡ Some (slice_index_or (paths ++ path ∷ []) x []) in
        subst P (sym same) (here ∙ ap (λ (p : List ℕ). Some p) (sym (get_or_push paths path [] (length paths) refl)))
    | inr other ↦
        let inner : k < length paths = omega (arith, less, other, length-append paths (path ∷ [])) in
        was.path k inner ∙ ap (λ (p : List ℕ). Some p) (sym (get_or_append_left paths (path ∷ []) [] k inner))
  ];
}

-- each path is short
pub short_more : (most : ℕ) (paths : List (List ℕ)) (path : List ℕ) → ((r : ℕ) → length (slice_index_or paths r []) ≤ most) → length path ≤ most → (r : ℕ) → length (slice_index_or (paths ++ path ∷ []) r []) ≤ most
short_more most [] path short one zero = one
short_more most [] path short one (suc r) = omega arith
short_more most (p ∷ ps) path short one zero = short 0
short_more most (p ∷ ps) path short one (suc r) = short_more most ps path (λ k. short (suc k)) one r
