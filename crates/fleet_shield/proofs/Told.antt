-- What the first robot has stays, as more robots are planned.
use Rattle.std.proofs.Common.{◌≡◌, ◌≢◌, ℕ, ◌+◌, ◌<◌, ◌≤◌, inl, inr, List, length, slice_index, sym, ap, ◌∙◌, arith}
use Rattle.std.proofs.lemmas.Bool.{cases_eq}
use Rattle.fleet_shield.specs.Wishes.{Wishes, robots}
use Rattle.fleet_shield.specs.inside.Board.{undecided, Keeps}
use Rattle.fleet_shield.specs.inside.First.{IsBlank, IsOther, HasFirst}

pub blank_from : (w : Wishes) (to tried : List ℕ) → length to ≡ robots w → length tried ≡ robots w
    → ((k : ℕ) → k < length to → slice_index to k ≡ undecided) → ((k : ℕ) → k < length tried → slice_index tried k ≡ 0) → IsBlank w to tried
blank_from w to tried news counts blank none r known = (blank r (omega (arith, known, news)), none r (omega (arith, known, counts)))

module _ (w : Wishes) (to to' order : List ℕ) (n : ℕ) (keeps : Keeps w to to') (inside : (k : ℕ) → k < n + 1 → slice_index order k < robots w)
    (decided : (j : ℕ) → j < n → slice_index to (slice_index order j) ≢ undecided) where
  pub decided_more : slice_index to' (slice_index order n) ≢ undecided → (j : ℕ) → j < n + 1 → slice_index to' (slice_index order j) ≢ undecided
  decided_more now j less = elim (cases_eq j n) [
    | inl last ↦ λ u. now (ap (λ (x : ℕ). slice_index to' (slice_index order x)) (sym last) ∙ u)
    | inr early ↦ (
        let small : j < n = omega (arith, less, early) in
        λ u. decided j small (sym (keeps (slice_index order j) (inside j less) (decided j small)) ∙ u))
  ]

  pub first_kept : 0 < n → HasFirst w to (slice_index order 0) → HasFirst w to' (slice_index order 0)
  first_kept some has other is = keeps (slice_index order 0) (inside 0 (omega arith)) (decided 0 some) ∙ has other is
