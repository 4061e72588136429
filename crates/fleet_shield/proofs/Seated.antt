-- No cell has the number of an undecided robot.
use Rattle.std.proofs.Common.{◌≡◌, ◌≢◌, ℕ, ◌<◌, ◌≤◌, inl, inr, List, length, slice_index, Some, sym, refl, ◌∙◌, arith}
use Rattle.std.proofs.lemmas.Bool.{cases_eq, cases_lt}
use Rattle.fleet_shield.specs.Wishes.{Wishes, robots, cell_of, preference}
use Rattle.fleet_shield.specs.inside.Board.{undecided, AreSeated, IsBoard}

pub number_decided : (c n : ℕ) → c < n → n ≤ 1048576 → c ≢ undecided
number_decided c n less few e = omega (arith, less, few, e)

module _ (w : Wishes) (standing : List ℕ) (seated : AreSeated w standing) where
  pub cell_decided : (r : ℕ) → r < robots w → cell_of w r ≢ undecided
  cell_decided r known = number_decided (cell_of w r) (length standing) (seated.inside r known) seated.few

  pub preference_decided : (r k : ℕ) → r < robots w → k < w.each → preference w r k ≢ undecided
  preference_decided r k known within = number_decided (preference w r k) (length standing) (seated.within r k known within) seated.few

  -- a robot that has not decided has preferences left, or none but to stay
  pub has_left : (to tried : List ℕ) (f : ℕ) → IsBoard w to tried (Some f) → slice_index tried f ≤ w.each
  has_left to tried f board =
      let at = board.idle f refl in
      elim (cases_lt w.each (slice_index tried f)) [
        | inl less ↦ absurd (cell_decided f at.0 (sym (board.spent f at.0 less) ∙ at.1))
        | inr more ↦ more
      ]
