-- A text cut after a line feed: its lines are those before the cut and those after it.
use Rattle.std.proofs.Common.{◌≡◌, ℕ, ◌+◌, ◌-◌, ◌<◌, inl, inr, List, [], ◌∷◌, ◌++◌, length, take, drop, map, Some, refl, sym, ap, ◌∙◌, arith, get_or}
use Rattle.std.specs.List.{onto_first, slice_split, position}
use Rattle.std.specs.Str.Lines.{strip_carriage_return}
use Rattle.std.proofs.lemmas.List.{map-append, append_assoc, length-append}
use Rattle.std.proofs.lemmas.List.Splits.{slice_split-cons_yes, slice_split-cons_no, length-slice_split}
use Rattle.std.proofs.lemmas.Bool.{cases_Bool, eqb-true}
use Rattle.std.proofs.lemmas.Grind.{common_steps}
use Rattle.std.proofs.lemmas.List.{take-append-drop}
use Rattle.std.proofs.lemmas.List.Quantifiers.{position-Some}
use Rattle.fleet_map.specs.Text.{is_line_feed, without_empty_last, lines_of, IsBehindLine}
use Rattle.fleet_map.proofs.TextLemmas.{keeps_first, behind}

some_parts : (xs : List ℕ) → 0 < length (slice_split is_line_feed xs)
some_parts xs = omega (arith, length-slice_split is_line_feed xs)

onto_front : (x : ℕ) (a b : List (List ℕ)) → 0 < length a → onto_first x (a ++ b) ≡ onto_first x a ++ b
onto_front x [] b h = absurd (omega arith)
onto_front x (p ∷ ps) b h = refl

split_cut : (xs rest : List ℕ) → slice_split is_line_feed (xs ++ 10 ∷ rest) ≡ slice_split is_line_feed xs ++ slice_split is_line_feed rest
split_cut [] rest = slice_split-cons_yes is_line_feed 10 rest refl
split_cut (x ∷ xs) rest = elim (cases_Bool (is_line_feed x)) [
  | inl passes ↦ slice_split-cons_yes is_line_feed x (xs ++ 10 ∷ rest) passes ∙ (ap (λ (ps : List (List ℕ)). [] ∷ ps) (split_cut xs rest) ∙ ap (λ (ps : List (List ℕ)). ps ++ slice_split is_line_feed rest) (sym (slice_split-cons_yes is_line_feed x xs passes)))
  | inr fails ↦ slice_split-cons_no is_line_feed x (xs ++ 10 ∷ rest) fails ∙ (ap (onto_first x) (split_cut xs rest) ∙ (onto_front x (slice_split is_line_feed xs) (slice_split is_line_feed rest) (some_parts xs)
      ∙ ap (λ (ps : List (List ℕ)). ps ++ slice_split is_line_feed rest) (sym (slice_split-cons_no is_line_feed x xs fails))))
]

keeps_front : (a b : List (List ℕ)) → 0 < length b → without_empty_last (a ++ b) ≡ a ++ without_empty_last b
keeps_front [] b h = refl
keeps_front (x ∷ xs) b h = keeps_first x (xs ++ b) (omega (arith, h, length-append xs b)) ∙ ap (λ (ps : List (List ℕ)). x ∷ ps) (keeps_front xs b h)

lines_at_cut : (xs rest : List ℕ) → lines_of (xs ++ 10 ∷ rest) ≡ map strip_carriage_return (slice_split is_line_feed xs) ++ lines_of rest
lines_at_cut xs rest =
    ap (λ (ps : List (List ℕ)). map strip_carriage_return (without_empty_last ps)) (split_cut xs rest)
    ∙ (ap (map strip_carriage_return) (keeps_front (slice_split is_line_feed xs) (slice_split is_line_feed rest) (some_parts rest))
    ∙ map-append strip_carriage_return (slice_split is_line_feed xs) (without_empty_last (slice_split is_line_feed rest)))

nil : (xs : List (List ℕ)) → xs ++ [] ≡ xs
nil [] = refl
nil (x ∷ xs) = ap (λ (l : List (List ℕ)). x ∷ l) (nil xs)

nil_bytes : (xs : List ℕ) → xs ++ [] ≡ xs
nil_bytes [] = refl
nil_bytes (x ∷ xs) = ap (λ (l : List ℕ). x ∷ l) (nil_bytes xs)

pub lines_cut : (xs rest : List ℕ) → lines_of ((xs ++ 10 ∷ []) ++ rest) ≡ lines_of (xs ++ 10 ∷ []) ++ lines_of rest
lines_cut xs rest =
    ap lines_of (append_assoc xs (10 ∷ []) rest)
    ∙ (lines_at_cut xs rest ∙ ap (λ (ls : List (List ℕ)). ls ++ lines_of rest) (sym (lines_at_cut xs [] ∙ nil (map strip_carriage_return (slice_split is_line_feed xs)))))

-- the lines of a text are those before a line's end and those after it
pub lines_behind : (text rest : List ℕ) (b : IsBehindLine text rest) → lines_of text ≡ lines_of b.before ++ lines_of rest
lines_behind text rest b = ap lines_of b.cut ∙ elim b.ended [
  | inl none ↦ ap (λ (r : List ℕ). lines_of (b.before ++ r)) none ∙ (ap lines_of (nil_bytes b.before) ∙ (sym (nil (lines_of b.before)) ∙ ap (λ (r : List ℕ). lines_of b.before ++ lines_of r) (sym none)))
  | inr line ↦ ap (λ (p : List ℕ). lines_of (p ++ rest)) line.1 ∙ (lines_cut line.0 rest ∙ ap (λ (p : List ℕ). lines_of p ++ lines_of rest) (sym line.1))
]

-- after a line of what is after a line
pub behind_more : (text rest last : List ℕ) → IsBehindLine text rest → IsBehindLine rest last → IsBehindLine text last
behind_more text rest last a b = record {
  before = a.before ++ b.before;
  cut = a.cut ∙ (ap (λ (r : List ℕ). a.before ++ r) b.cut ∙ sym (append_assoc a.before b.before last));
  ended = elim b.ended [
    | inl none ↦ inl none
    | inr line ↦ inr (a.before ++ line.0, ap (λ (r : List ℕ). a.before ++ r) line.1 ∙ sym (append_assoc a.before line.0 (10 ∷ [])))
  ];
}

pub behind_last : (text : List ℕ) → IsBehindLine text []
behind_last text = record { before = text; cut = sym (nil_bytes text); ended = inl refl }

-- after the first line feed
pub behind_first : (text : List ℕ) (k : ℕ) → position is_line_feed text ≡ Some k → IsBehindLine text (take (length text - (k + 1)) (drop (k + 1) text))
behind_first text k e =
    let p = position-Some is_line_feed text k 0 e in
    record {
      before = take (k + 1) text;
      cut = sym (take-append-drop (k + 1) text) ∙ ap (λ (r : List ℕ). take (k + 1) text ++ r) (sym (behind text (k + 1)));
      ended = inr (take k text, take_more text k p.0 ∙ ap (λ (x : ℕ). take k text ++ x ∷ []) (eqb-true (get_or text k 0) 10 p.1));
    }
  where
    take_more : (xs : List ℕ) (i : ℕ) → i < length xs → take (i + 1) xs ≡ take i xs ++ get_or xs i 0 ∷ []
    take_more xs i h = grind (arith, common_steps, h)
