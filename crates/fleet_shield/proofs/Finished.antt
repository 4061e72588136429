-- A plan in which all robots have decided.
use Rattle.std.proofs.Common.{◌≡◌, ◌≢◌, ℕ, suc, ◌+◌, ◌<◌, ◌≤◌, ◌⊎◌, inl, inr, List, length, slice_index, None, sym, ap, subst, refl, ◌∙◌, arith}
use Rattle.std.proofs.lemmas.Bool.{cases_eq, cases_lt}
use Rattle.fleet_grid.specs.Floor.{Floor, IsFloor, IsNeighbour}
use Rattle.fleet_grid.specs.Step.{IsConflictFree}
use Rattle.fleet_shield.specs.Wishes.{Wishes, robots, cell_of, preference, Prefers, AreSound}
use Rattle.fleet_shield.specs.Shielded.{KeepToPreferences, IsBarred, GetBestLeft, GetsFirst}
use Rattle.fleet_shield.specs.inside.First.{HasFirst}
use Rattle.fleet_shield.specs.Shielded.IsBarred.{taken, swaps, pushed}
use Rattle.fleet_shield.specs.inside.Board.{undecided, WasBarred, IsBoard}
use Rattle.fleet_shield.specs.inside.Board.WasBarred.{taken as was_taken, swaps as was_swapping, pushed as was_pushed}

module _ (w : Wishes) (to tried : List ℕ) (board : IsBoard w to tried None) (decided : (r : ℕ) → r < robots w → slice_index to r ≢ undecided) where
  pub finished_preferred : KeepToPreferences w to
  finished_preferred r known = elim (cases_lt w.each (slice_index tried r)) [
    | inl spent ↦ inl (board.spent r known spent)
    | inr left ↦ (
        let it = board.chosen r known (decided r known) left in
        inr (it.0, omega (arith, it.1, left), it.2))
  ]

  pub finished_best : GetBestLeft w to
  finished_best r k known within better = elim (board.barred r k known tried_k within (λ e. better k (omega arith) (sym e))) [
    | was_taken q kq e ↦ taken q kq e
    | was_swapping q kq here e ↦ swaps q kq here e
    | was_pushed q j kq here less in_list e stays ↦ pushed q kq here (j, in_list, e) stays
  ]
    where
      tried_k : k < slice_index tried r
      tried_k = elim (cases_lt w.each (slice_index tried r)) [
        | inl spent ↦ omega (arith, spent, within)
        | inr left ↦ (
            let it = board.chosen r known (decided r known) left in
            elim (cases_lt k it.0) [
              | inl less ↦ omega (arith, less, it.1)
              | inr more ↦ absurd (better it.0 more it.2)
            ])
      ]

  module _ (m : Floor) (order : List ℕ) (sound : AreSound m order w) where
    finished_moves : (r : ℕ) → r < robots w → (slice_index to r ≡ slice_index w.from r) ⊎ IsNeighbour m (slice_index w.from r) (slice_index to r)
    finished_moves r known = elim (finished_preferred r known) [
      | inl stays ↦ inl stays
      | inr it ↦ subst (λ (c : ℕ). (c ≡ slice_index w.from r) ⊎ IsNeighbour m (slice_index w.from r) c) it.2 (sound.near r it.0 known it.1)
    ]

    finished_floor : (r : ℕ) → r < robots w → IsFloor m (slice_index to r)
    finished_floor r known = elim (finished_moves r known) [
      | inl stays ↦ subst (λ (c : ℕ). IsFloor m c) (sym stays) (sound.placed.on_floor r known)
      | inr edge ↦ edge.1.to
    ]

    pub finished_free : IsConflictFree m w.from to
    finished_free = record {
      same_length = board.news;
      on_floor = finished_floor;
      moves = finished_moves;
      no_vertex_conflict = λ i j less kj e. omega (arith, less, board.apart i j (omega (arith, less, kj)) kj (decided i (omega (arith, less, kj))) e);
      no_swapping_conflict = λ i j less kj e d. omega (arith, less, board.swapless i j (omega (arith, less, kj)) kj e d);
    }

-- what the first robot gets, in the words of the map
pub finished_first : (m : Floor) (w : Wishes) (to : List ℕ) (e : ℕ) → HasFirst w to e → GetsFirst m w to e
finished_first m w to e has other free keeps some first = has other (record {
  some = some;
  keeps = keeps;
  apart = λ r q kr kq same. elim (cases_lt r q) [
    | inl less ↦ absurd (free.no_vertex_conflict r q less kq same)
    | inr more ↦ elim (cases_eq r q) [
      | inl is ↦ is
      | inr ne ↦ absurd (free.no_vertex_conflict q r (omega (arith, more, ne)) kr (sym same))
    ]
  ];
  swapless = λ r q kr kq there back. elim (cases_lt r q) [
    | inl less ↦ absurd (free.no_swapping_conflict r q less kq there back)
    | inr more ↦ elim (cases_eq r q) [
      | inl is ↦ is
      | inr ne ↦ absurd (free.no_swapping_conflict q r (omega (arith, more, ne)) kr back there)
    ]
  ];
  first = first;
})
