-- A plan before the first robot, and the tables that it is made with.
use Rattle.std.proofs.Common.{◌≡◌, ◌≢◌, ℕ, ◌+◌, ◌*◌, ◌<◌, ◌≤◌, inl, inr, List, length, slice_index, Option, Some, None, sym, ap, subst, ◌∙◌, arith}
use Rattle.std.proofs.lemmas.Bool.{cases_eq, cases_lt}
use Rattle.fleet_grid.specs.Floor.{Floor, HasForm}
use Rattle.fleet_grid.proofs.Forms.{floor_inside, few_cells}
use Rattle.fleet_shield.specs.Wishes.{Wishes, robots, cell_of, preference, AreSound}
use Rattle.fleet_shield.specs.inside.Entered.{IsEntered}
use Rattle.fleet_shield.specs.inside.Board.{undecided, AreSeated, IsHolding, IsBoard}
use Rattle.fleet_shield.proofs.Seated.{cell_decided}

pub blank_board : (w : Wishes) (standing to tried : List ℕ) → AreSeated w standing → length to ≡ robots w → length tried ≡ robots w
    → ((k : ℕ) → k < length to → slice_index to k ≡ undecided) → ((k : ℕ) → k < length tried → slice_index tried k ≡ 0) → IsBoard w to tried None
blank_board w standing to tried seated news counts blank none = record {
  news = news;
  counts = counts;
  apart = λ r q kr kq some e. absurd (some (empty r kr));
  swapless = λ r q kr kq e d. absurd (cell_decided w standing seated q kq (sym e ∙ empty r kr));
  edge = λ r q kr kq e u. absurd (cell_decided w standing seated q kq (sym e ∙ empty r kr));
  idle = λ q e. absurd (none_some q e);
  few = λ r kr. omega (arith, zeroes r kr);
  spent = λ r kr less. absurd (omega (arith, less, zeroes r kr));
  chosen = λ r kr some few. absurd (some (empty r kr));
  barred = λ r k kr less within ne. absurd (omega (arith, less, zeroes r kr));
}
  where
    empty : (r : ℕ) → r < robots w → slice_index to r ≡ undecided
    empty r kr = blank r (omega (arith, kr, news))

    zeroes : (r : ℕ) → r < robots w → slice_index tried r ≡ 0
    zeroes r kr = none r (omega (arith, kr, counts))

    none_some : (q : ℕ) → None ≡ Some q → ⊥
    none_some q e = cc e

pub blank_holding : (n cells : ℕ) (to holder : List ℕ) → cells ≤ 1048576 → length to ≡ n → length holder ≡ cells
    → ((k : ℕ) → k < length to → slice_index to k ≡ undecided) → IsHolding n cells to holder
blank_holding n cells to holder few news size blank = record {
  news = news;
  size = size;
  entered = λ k small inside. absurd (omega (arith, inside, blank k small, size, few));
}

module _ (m : Floor) (form : HasForm m) (order : List ℕ) (w : Wishes) (sound : AreSound m order w) (standing : List ℕ)
    (size : length standing ≡ length m.letters) (entered : IsEntered w.from standing) where
  seat_distinct : (r q : ℕ) → r < robots w → q < robots w → cell_of w r ≡ cell_of w q → r ≡ q
  seat_distinct r q kr kq e = elim (cases_lt r q) [
    | inl less ↦ absurd (sound.placed.distinct r q less kq e)
    | inr more ↦ elim (cases_eq r q) [
      | inl same ↦ same
      | inr apart ↦ absurd (sound.placed.distinct q r (omega (arith, more, apart)) kr (sym e))
    ]
  ]

  seat_inside : (r : ℕ) → r < robots w → cell_of w r < length standing
  seat_inside r kr = omega (arith, floor_inside m (cell_of w r) (sound.placed.on_floor r kr), size)

  seat_within : (r k : ℕ) → r < robots w → k < w.each → preference w r k < length standing
  seat_within r k kr within = elim (sound.near r k kr within) [
    | inl own ↦ omega (arith, own, seat_inside r kr)
    | inr edge ↦ omega (arith, floor_inside m (preference w r k) edge.1.to, size)
  ]

  pub seated_from : AreSeated w standing
  seated_from = record {
    few = omega (arith, size, few_cells m form);
    lists = sound.lists;
    distinct = seat_distinct;
    inside = seat_inside;
    within = seat_within;
    entered = entered;
  }
