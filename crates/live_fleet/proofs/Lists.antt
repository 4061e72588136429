-- A list that is told line by line.
use Rattle.std.proofs.Common.{◌≡◌, ◌∙◌, ℕ, ◌+◌, ◌==◌, zero, suc, Bool, true, false, List, [], ◌∷◌, ◌++◌, length, Option, Some, None, codes, decimal, refl, sym, ap, subst, arith, append_assoc, append-nil}
use Rattle.std.specs.Prelude.{slice_get}
use Rattle.std.specs.List.{flat_map, range_with_len}
use Rattle.fleet_core.specs.declared.open_errands.OpenErrand.{OpenErrand}
use Rattle.fleet_talk.specs.Says.{marked, marked_from, opened}
use Rattle.fleet_text.specs.Answers.{open_end, open_line, open_text}
use Rattle.live_fleet.specs.Resting.{line_listed, listed_line}

-- a text whose last byte ends a line
record EndsLine (text : List ℕ) : Type 0 where
  pub front : List ℕ
  pub is : text ≡ front ++ 10 ∷ []

ends_after : (a text : List ℕ) → EndsLine text → EndsLine (a ++ text)
ends_after a text ends = record { front = a ++ ends.front; is = ap (λ (l : List ℕ). a ++ l) ends.is ∙ sym (append_assoc a ends.front (10 ∷ [])) }

ends_here : EndsLine (codes "\n")
ends_here = record { front = []; is = refl }

line_ends : (client : ℕ) (e : OpenErrand) → EndsLine (open_line client e)
line_ends client e =
    ends_after (codes "open ") _ (ends_after (decimal client) _ (ends_after (codes " number ") _ (ends_after (decimal e.number) _ (ends_after (codes " robot ") _
    (ends_after (decimal e.robot) _ (ends_after (codes " cell ") _ (ends_after (decimal e.cell) _ (ends_after (codes " place ") _ (ends_after (decimal e.place) (codes "\n") ends_here)))))))))

-- the mark of what follows the end of a line begins anew
marked_then : (mark : List ℕ) (begins : Bool) (front rest : List ℕ) → marked_from mark begins ((front ++ 10 ∷ []) ++ rest) ≡ marked_from mark begins (front ++ 10 ∷ []) ++ marked_from mark true rest
marked_then mark begins [] rest = ap (λ (l : List ℕ). l ++ marked_from mark true rest) (sym (append-nil (opened mark begins 10)))
marked_then mark begins (x ∷ front) rest =
    ap (λ (l : List ℕ). opened mark begins x ++ l) (marked_then mark (x == 10) front rest) ∙ sym (append_assoc (opened mark begins x) (marked_from mark (x == 10) (front ++ 10 ∷ [])) (marked_from mark true rest))

marked_line : (mark : Option (List ℕ)) (line rest : List ℕ) → EndsLine line → marked mark (line ++ rest) ≡ marked mark line ++ marked mark rest
marked_line None line rest ends = refl
marked_line (Some mark) line rest ends =
    subst (λ (l : List ℕ). marked_from mark true (l ++ rest) ≡ marked_from mark true l ++ marked_from mark true rest) (sym ends.is) (marked_then mark true ends.front rest)

-- the line of an errand, or the last one
line_or : ℕ → List ℕ → Option OpenErrand → List ℕ
line_or client last (Some e) = open_line client e
line_or client last None = last

-- the lines from this place on
lines_from : (mark : Option (List ℕ)) (client low : ℕ) (last : List ℕ) (errands : List OpenErrand) (line : ℕ → List ℕ) → ((n : ℕ) → line (low + n) ≡ marked mark (line_or client last (slice_get errands n)))
    → flat_map line (range_with_len low (suc (length errands))) ≡ marked mark (flat_map (open_line client) errands ++ last)
unfolding line_or
lines_from mark client low last [] line is = append-nil (line low) ∙ (let same : low ≡ low + 0 = omega arith in ap line same ∙ is 0)
lines_from mark client low last (e ∷ errands) line is =
    let same : low ≡ low + 0 = omega arith in
    let first : line low ≡ marked mark (open_line client e) = ap line same ∙ is 0 in
    let rest = lines_from mark client (low + 1) last errands line (λ n. let next : (low + 1) + n ≡ low + suc n = omega arith in ap line next ∙ is (suc n)) in
    ap (λ (l : List ℕ). l ++ flat_map line (range_with_len (low + 1) (suc (length errands)))) first
    ∙ (ap (λ (l : List ℕ). marked mark (open_line client e) ++ l) rest
    ∙ (sym (marked_line mark (open_line client e) (flat_map (open_line client) errands ++ last) (line_ends client e))
    ∙ ap (marked mark) (sym (append_assoc (open_line client e) (flat_map (open_line client) errands) last))))

pub lists-whole : (mark : Option (List ℕ)) (client : ℕ) (errands : List OpenErrand) → flat_map (λ n. marked mark (line_listed client errands n)) (range_with_len 0 (length errands + 1)) ≡ marked mark (open_text client errands)
unfolding line_or
lists-whole mark client errands =
    let many : length errands + 1 ≡ suc (length errands) = omega arith in
    ap (λ (n : ℕ). flat_map (λ i. marked mark (line_listed client errands i)) (range_with_len 0 n)) many
    ∙ lines_from mark client 0 (open_end client (length errands)) errands (λ i. marked mark (line_listed client errands i)) (λ n. let same : 0 + n ≡ n = omega arith in ap (λ (i : ℕ). marked mark (line_listed client errands i)) same ∙ ap (marked mark) (same_line client errands (slice_get errands n)))
  where
    same_line : (client : ℕ) (errands : List OpenErrand) (o : Option OpenErrand) → listed_line client errands o ≡ line_or client (open_end client (length errands)) o
    same_line client errands (Some e) = refl
    same_line client errands None = refl
