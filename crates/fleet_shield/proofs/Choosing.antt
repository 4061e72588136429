-- A choice keeps what holds of a plan, and brings it nearer to its end.
use Rattle.std.proofs.Common.{◌≡◌, ◌≢◌, ℕ, suc, ◌+◌, ◌-◌, ◌<◌, ◌≤◌, ◌⊎◌, inl, inr, List, length, slice_index, slice_set, Option, Some, None, MatchOption, sym, ap, subst, refl, ◌∙◌, arith}
use Rattle.std.specs.List.{sum_by}
use Rattle.std.proofs.Math.ListN.{length-set}
use Rattle.std.proofs.lemmas.Bool.{cases_eq, cases_lt}
use Rattle.std.proofs.lemmas.List.{get_or-set_same, get_or-set_other}
use Rattle.std.proofs.lemmas.List.Sums.{sum_by-set}
use Rattle.fleet_shield.specs.Wishes.{Wishes, robots, cell_of, preference}
use Rattle.fleet_shield.specs.inside.Board.{undecided, AreSeated, IsOpen, IsShut, Reserves, Stays, Yields, Chooses, IsBoard, Keeps}
use Rattle.fleet_shield.specs.inside.Board.Chooses.{reserves, stays}
use Rattle.fleet_shield.proofs.Seated.{cell_decided, preference_decided, has_left}
use Rattle.fleet_shield.proofs.Taking.{Takes, take_board}
use Rattle.fleet_shield.proofs.Yielding.{yield_board}

-- how many preferences a robot has left, and its own cell
pub left_after : ℕ → ℕ → ℕ
left_after each tried = each + 1 - tried

-- how many are left to all
pub spare : ℕ → List ℕ → ℕ
spare each tried = sum_by (left_after each) tried

spare_less : (each : ℕ) (tried : List ℕ) (f m : ℕ) → f < length tried → slice_index tried f < m → m ≤ each + 1 → spare each (slice_set tried f m) < spare each tried
unfolding spare left_after
spare_less each tried f m known less most =
    let sum = sum_by-set (left_after each) tried f m 0 known in
    omega (arith, sum, less, most)

module _ (w : Wishes) (standing : List ℕ) (seated : AreSeated w standing) (to tried : List ℕ) (f : ℕ) (board : IsBoard w to tried (Some f)) where
  known : f < robots w
  known = (board.idle f refl).0

  idle : slice_index to f ≡ undecided
  idle = (board.idle f refl).1

  -- the robot reserves its preference
  reserve_takes : (k : ℕ) (to' tried' : List ℕ) (next : Option ℕ) → Reserves w to tried f k to' tried' next → Takes w to tried f (preference w f k) (k + 1) next
  reserve_takes k to' tried' next r = record {
    is_open = r.is_open;
    decided = preference_decided w standing seated f k known r.within;
    low = omega (arith, r.low);
    high = omega (arith, r.within);
    own = λ less. absurd (omega (arith, less, r.within));
    chosen = λ _. (k, omega arith, refl);
    shut = λ j now less within ne. elim (cases_eq j k) [
      | inl same ↦ absurd (ne (ap (preference w f) (sym same)))
      | inr apart ↦ r.shut j now (omega (arith, less, apart))
    ];
    next_is = subst (λ (xs : List ℕ). MatchOption next
        ((q : ℕ) → q < robots w → cell_of w q ≡ preference w f k → slice_index xs q ≢ undecided)
        (λ q. (q < robots w) × (cell_of w q ≡ preference w f k) × (slice_index xs q ≡ undecided))) r.to_is r.next_is;
  }

  -- the robot stays, and nobody has reserved its cell
  stay_takes : (free : (q : ℕ) → q < robots w → slice_index to q ≢ cell_of w f)
      → ((j : ℕ) → slice_index tried f ≤ j → j < w.each → IsShut w to f (preference w f j)) → Takes w to tried f (cell_of w f) (w.each + 1) None
  stay_takes free shut = record {
    is_open = record {
      free = free;
      clear = λ q kq here e. cell_decided w standing seated f known (sym e ∙ (ap (slice_index to) (seated.distinct q f kq known here) ∙ idle));
    };
    decided = cell_decided w standing seated f known;
    low = omega (arith, board.few f known);
    high = omega arith;
    own = λ _. refl;
    chosen = λ few. absurd (omega (arith, few));
    shut = λ j now less within ne. shut j now within;
    next_is = λ q kq here u. cell_decided w standing seated f known
        (sym (get_or-set_same to f (cell_of w f) 0 (omega (arith, known, board.news))) ∙ (ap (slice_index (slice_set to f (cell_of w f))) (sym (seated.distinct q f kq known here)) ∙ u));
  }

  stay_board : (to' : List ℕ) (next : Option ℕ) → ((j : ℕ) → slice_index tried f ≤ j → j < w.each → IsShut w to f (preference w f j))
      → Yields (robots w) to f (cell_of w f) to' next → IsBoard w to' (slice_set tried f (w.each + 1)) next
  stay_board to' None shut alone = subst (λ (xs : List ℕ). IsBoard w xs (slice_set tried f (w.each + 1)) None) (sym alone.1)
      (take_board w standing seated to tried f (cell_of w f) (w.each + 1) None board (stay_takes alone.0 shut))
  stay_board to' (Some p) shut held = subst (λ (xs : List ℕ). IsBoard w xs (slice_set tried f (w.each + 1)) (Some p)) (sym held.2)
      (yield_board w standing seated to tried f p board held.0 held.1 shut)

  pub choose_board : (to' tried' : List ℕ) (next : Option ℕ) → Chooses w to tried f to' tried' next → IsBoard w to' tried' next
  choose_board to' tried' next c = elim c [
    | reserves k r ↦ rw (r.to_is, r.tried_is)
        (take_board w standing seated to tried f (preference w f k) (k + 1) next board (reserve_takes k to' tried' next r))
    | stays s ↦ rw s.tried_is (stay_board to' next s.shut s.next_is)
  ]

  pub choose_spare : (to' tried' : List ℕ) (next : Option ℕ) → Chooses w to tried f to' tried' next → spare w.each tried' < spare w.each tried
  choose_spare to' tried' next c = elim c [
    | reserves k r ↦ rw r.tried_is (spare_less w.each tried f (k + 1) (omega (arith, known, board.counts)) (omega (arith, r.low)) (omega (arith, r.within)))
    | stays s ↦ rw s.tried_is (spare_less w.each tried f (w.each + 1) (omega (arith, known, board.counts)) (omega (arith, has_left w standing seated to tried f board)) (omega arith))
  ]

  -- all but this robot, and the one that has to choose again, keep their cells; and this one decides
  stay_at : (to' : List ℕ) (next : Option ℕ) → Yields (robots w) to f (cell_of w f) to' next → slice_index to' f ≡ cell_of w f
  stay_at to' None alone = ap (λ (xs : List ℕ). slice_index xs f) alone.1 ∙ get_or-set_same to f (cell_of w f) 0 (omega (arith, known, board.news))
  stay_at to' (Some p) held = ap (λ (xs : List ℕ). slice_index xs f) held.2
      ∙ get_or-set_same (slice_set to p undecided) f (cell_of w f) 0 (omega (arith, known, board.news, length-set to p undecided))

  pub choose_at : (to' tried' : List ℕ) (next : Option ℕ) → Chooses w to tried f to' tried' next → slice_index to' f ≢ undecided
  choose_at to' tried' next c u = elim c [
    | reserves k r ↦ preference_decided w standing seated f k known r.within
        (sym (ap (λ (xs : List ℕ). slice_index xs f) r.to_is ∙ get_or-set_same to f (preference w f k) 0 (omega (arith, known, board.news))) ∙ u)
    | stays s ↦ cell_decided w standing seated f known (sym (stay_at to' next s.next_is) ∙ u)
  ]

  stay_off : (to' : List ℕ) (next : Option ℕ) → Yields (robots w) to f (cell_of w f) to' next → (x : ℕ) → x ≢ f
      → (slice_index to' x ≡ slice_index to x) ⊎ ((next ≡ Some x) × (slice_index to x ≡ cell_of w f))
  stay_off to' None alone x ne = inl (ap (λ (xs : List ℕ). slice_index xs x) alone.1 ∙ get_or-set_other to f x (cell_of w f) 0 ne)
  stay_off to' (Some p) held x ne = elim (cases_eq x p) [
    | inl same ↦ inr (ap Some (sym same), ap (slice_index to) same ∙ held.1)
    | inr apart ↦ inl (ap (λ (xs : List ℕ). slice_index xs x) held.2
        ∙ (get_or-set_other (slice_set to p undecided) f x (cell_of w f) 0 ne ∙ get_or-set_other to p x undecided 0 apart))
  ]

  pub choose_off : (to' tried' : List ℕ) (next : Option ℕ) → Chooses w to tried f to' tried' next → (x : ℕ) → x ≢ f
      → (slice_index to' x ≡ slice_index to x) ⊎ ((next ≡ Some x) × (slice_index to x ≡ cell_of w f))
  choose_off to' tried' next c x ne = elim c [
    | reserves k r ↦ inl (ap (λ (xs : List ℕ). slice_index xs x) r.to_is ∙ get_or-set_other to f x (preference w f k) 0 ne)
    | stays s ↦ stay_off to' next s.next_is x ne
  ]

-- a plan of one robot so far, from the plan `to0`
pub record IsGoing (w : Wishes) (to0 tried0 : List ℕ) (root : ℕ) (to tried : List ℕ) (next : Option ℕ) : Type 0 where
  pub board : IsBoard w to tried next
  pub keeps : Keeps w to0 to
  pub rooted : (slice_index to root ≢ undecided) ⊎ (next ≡ Some root)

pub going_start : (w : Wishes) (to tried : List ℕ) (root : ℕ) → IsBoard w to tried None → root < robots w → slice_index to root ≡ undecided
    → IsGoing w to tried root to tried (Some root)
going_start w to tried root board known idle = record {
  board = record {
    news = board.news;
    counts = board.counts;
    apart = board.apart;
    swapless = board.swapless;
    edge = λ r q kr kq e u. absurd (none_some q (board.edge r q kr kq e u));
    idle = λ q e. let same : root ≡ q = cc e in (omega (arith, same, known), ap (slice_index to) (sym same) ∙ idle);
    few = board.few;
    spent = board.spent;
    chosen = board.chosen;
    barred = board.barred;
  };
  keeps = λ r kr some. refl;
  rooted = inr refl;
}
  where
    none_some : (q : ℕ) → None ≡ Some q → ⊥
    none_some q e = cc e

module _ (w : Wishes) (standing : List ℕ) (seated : AreSeated w standing) (to0 tried0 : List ℕ) (root : ℕ) (board0 : IsBoard w to0 tried0 None)
    (to tried : List ℕ) (f : ℕ) (going : IsGoing w to0 tried0 root to tried (Some f)) (to' tried' : List ℕ) (next : Option ℕ)
    (chooses : Chooses w to tried f to' tried' next) where
  idle_first : slice_index to0 f ≡ undecided
  idle_first =
      let at = going.board.idle f refl in
      elim (cases_eq (slice_index to0 f) undecided) [
        | inl is ↦ is
        | inr some ↦ absurd (some (sym (going.keeps f at.0 some) ∙ at.1))
      ]

  none_some : (q : ℕ) → None ≡ Some q → ⊥
  none_some q e = cc e

  going_keeps : Keeps w to0 to'
  going_keeps r kr some = elim (cases_eq r f) [
    | inl same ↦ absurd (some (ap (slice_index to0) same ∙ idle_first))
    | inr ne ↦ elim (choose_off w standing seated to tried f going.board to' tried' next chooses r ne) [
      | inl kept ↦ kept ∙ going.keeps r kr some
      | inr again ↦ absurd (none_some f (board0.edge r f kr (going.board.idle f refl).0 (sym (going.keeps r kr some) ∙ again.1) idle_first))
    ]
  ]

  going_rooted : (slice_index to' root ≢ undecided) ⊎ (next ≡ Some root)
  going_rooted = elim (cases_eq root f) [
    | inl same ↦ inl (λ u. choose_at w standing seated to tried f going.board to' tried' next chooses (ap (slice_index to') (sym same) ∙ u))
    | inr ne ↦ elim (choose_off w standing seated to tried f going.board to' tried' next chooses root ne) [
      | inr again ↦ inr again.0
      | inl kept ↦ elim going.rooted [
        | inl some ↦ inl (λ u. some (sym kept ∙ u))
        | inr top ↦ absurd (ne (some_same top))
      ]
    ]
  ]
    where
      some_same : Some f ≡ Some root → root ≡ f
      some_same e = cc e

  pub going_on : IsGoing w to0 tried0 root to' tried' next
  going_on = record {
    board = choose_board w standing seated to tried f going.board to' tried' next chooses;
    keeps = going_keeps;
    rooted = going_rooted;
  }
