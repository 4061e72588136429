-- The table of who has reserved which cell, and which cells are open.
use Rattle.std.proofs.Common.{◌≡◌, ◌≢◌, ℕ, ◌+◌, ◌<◌, ◌≤◌, inl, inr, Bool, true, false, List, length, slice_index, slice_set, Option, Some, None, MatchOption, sym, ap, subst, refl, ◌∙◌, arith}
use Rattle.std.specs.Option.{is_some}
use Rattle.std.proofs.Math.ListN.{length-set}
use Rattle.std.proofs.lemmas.Bool.{cases_eq}
use Rattle.std.proofs.lemmas.List.{get_or-set_same, get_or-set_other}
use Rattle.fleet_shield.specs.Wishes.{Wishes, robots, cell_of, preference}
use Rattle.fleet_shield.specs.inside.Board.{undecided, AreSeated, IsHolding, IsOpen, IsShut, Chooses}
use Rattle.fleet_shield.specs.inside.Board.Chooses.{reserves}
use Rattle.fleet_shield.specs.inside.Board.IsShut.{held, meets}

module _ (n cells : ℕ) (to holder : List ℕ) (r c : ℕ) (h : IsHolding n cells to holder) (known : r < n) (inside : c < cells)
    (free : (q : ℕ) → q < n → slice_index to q ≢ c) where
  hold_entered : (k : ℕ) → k < length (slice_set to r c) → slice_index (slice_set to r c) k < length (slice_set holder c r)
      → slice_index (slice_set holder c r) (slice_index (slice_set to r c) k) ≡ k
  hold_entered k small within = elim (cases_eq k r) [
    | inl same ↦ ap (slice_index (slice_set holder c r)) (ap (slice_index (slice_set to r c)) same ∙ get_or-set_same to r c 0 (omega (arith, known, h.news)))
        ∙ (get_or-set_same holder c r 0 (omega (arith, inside, h.size)) ∙ sym same)
    | inr ne ↦ (
        let kept : slice_index (slice_set to r c) k ≡ slice_index to k = get_or-set_other to r k c 0 ne in
        let here : k < length to = omega (arith, small, length-set to r c) in
        ap (slice_index (slice_set holder c r)) kept
        ∙ (get_or-set_other holder c (slice_index to k) r 0 (free k (omega (arith, here, h.news)))
        ∙ h.entered k here (omega (arith, within, kept, length-set holder c r))))
  ]

  pub hold_more : IsHolding n cells (slice_set to r c) (slice_set holder c r)
  hold_more = record {
    news = length-set to r c ∙ h.news;
    size = length-set holder c r ∙ h.size;
    entered = hold_entered;
  }

-- by what a table tells of a cell
abbrev pub Found : List ℕ → ℕ → Option ℕ → Type 0
Found xs c o = MatchOption o ((k : ℕ) → k < length xs → slice_index xs k ≢ c) (λ k. (k < length xs) × (slice_index xs k ≡ c))

pub shut_held : (w : Wishes) (to : List ℕ) (robot cell : ℕ) (o : Option ℕ) → length to ≡ robots w → true ≡ is_some o → Found to cell o → IsShut w to robot cell
shut_held w to robot cell None news some found = absurd (cc some)
shut_held w to robot cell (Some q) news some found = held q (omega (arith, found.0, news)) found.1

pub free_found : (w : Wishes) (to : List ℕ) (cell : ℕ) (o : Option ℕ) → length to ≡ robots w → false ≡ is_some o → Found to cell o → (q : ℕ) → q < robots w → slice_index to q ≢ cell
free_found w to cell None news none found q known = found q (omega (arith, known, news))
free_found w to cell (Some p) news none found q known = absurd (cc none)

pub open_if : (w : Wishes) (standing to : List ℕ) (robot cell other : ℕ) → AreSeated w standing → ((q : ℕ) → q < robots w → slice_index to q ≢ cell)
    → other < robots w → cell_of w other ≡ cell → slice_index to other ≢ cell_of w robot → IsOpen w to robot cell
open_if w standing to robot cell other seated free known here ne = record {
  free = free;
  clear = λ q kq at e. ne (ap (slice_index to) (seated.distinct other q known kq (here ∙ sym at)) ∙ e);
}

pub reserving : (w : Wishes) (to tried : List ℕ) (robot place : ℕ) (to' : List ℕ) (next : Option ℕ) → place < w.each → slice_index tried robot ≤ place
    → ((j : ℕ) → slice_index tried robot ≤ j → j < place → IsShut w to robot (preference w robot j)) → IsOpen w to robot (preference w robot place)
    → to' ≡ slice_set to robot (preference w robot place)
    → MatchOption next
    ((q : ℕ) → q < robots w → cell_of w q ≡ preference w robot place → slice_index to' q ≢ undecided)
    (λ q. (q < robots w) × (cell_of w q ≡ preference w robot place) × (slice_index to' q ≡ undecided))
    → Chooses w to tried robot to' (slice_set tried robot (place + 1)) next
reserving w to tried robot place to' next within low shut open_now to_is next_is = reserves place (record {
  within = within;
  low = low;
  shut = shut;
  is_open = open_now;
  to_is = to_is;
  tried_is = refl;
  next_is = next_is;
})
