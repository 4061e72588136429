-- A robot stays, and the robot that had reserved its cell has to choose again.
use Rattle.std.proofs.Common.{◌≡◌, ◌≢◌, ℕ, suc, ◌+◌, ◌<◌, ◌≤◌, inl, inr, List, length, slice_index, slice_set, Option, Some, None, sym, ap, subst, refl, ◌∙◌, arith}
use Rattle.std.proofs.Math.ListN.{length-set}
use Rattle.std.proofs.lemmas.Bool.{cases_eq, cases_lt}
use Rattle.std.proofs.lemmas.List.{get_or-set_same, get_or-set_other}
use Rattle.fleet_shield.specs.Wishes.{Wishes, robots, cell_of, preference}
use Rattle.fleet_shield.specs.inside.Board.{undecided, AreSeated, IsShut, WasBarred, IsBoard}
use Rattle.fleet_shield.specs.inside.Board.WasBarred.{taken, swaps, pushed}
use Rattle.fleet_shield.proofs.Seated.{cell_decided, preference_decided, has_left}
use Rattle.fleet_shield.proofs.Taking.{barred_if_shut}

module _ (w : Wishes) (standing : List ℕ) (seated : AreSeated w standing) (to tried : List ℕ) (f p : ℕ)
    (board : IsBoard w to tried (Some f)) (pusher : p < robots w) (held : slice_index to p ≡ cell_of w f)
    (shut : (j : ℕ) → slice_index tried f ≤ j → j < w.each → IsShut w to f (preference w f j)) where
  abbrev to' : List ℕ
  to' = slice_set (slice_set to p undecided) f (cell_of w f)

  abbrev tried' : List ℕ
  tried' = slice_set tried f (w.each + 1)

  known : f < robots w
  known = (board.idle f refl).0

  idle : slice_index to f ≡ undecided
  idle = (board.idle f refl).1

  own_decided : cell_of w f ≢ undecided
  own_decided = cell_decided w standing seated f known

  apart_pf : p ≢ f
  apart_pf e = own_decided (sym held ∙ (ap (slice_index to) e ∙ idle))

  at : slice_index to' f ≡ cell_of w f
  at = get_or-set_same (slice_set to p undecided) f (cell_of w f) 0 (omega (arith, known, board.news, length-set to p undecided))

  at_pusher : slice_index to' p ≡ undecided
  at_pusher = get_or-set_other (slice_set to p undecided) f p (cell_of w f) 0 apart_pf ∙ get_or-set_same to p undecided 0 (omega (arith, pusher, board.news))

  pub off : (x : ℕ) → x ≢ f → x ≢ p → slice_index to' x ≡ slice_index to x
  off x nf np = get_or-set_other (slice_set to p undecided) f x (cell_of w f) 0 nf ∙ get_or-set_other to p x undecided 0 np

  at_tried : slice_index tried' f ≡ w.each + 1
  at_tried = get_or-set_same tried f (w.each + 1) 0 (omega (arith, known, board.counts))

  off_tried : (x : ℕ) → x ≢ f → slice_index tried' x ≡ slice_index tried x
  off_tried x ne = get_or-set_other tried f x (w.each + 1) 0 ne

  -- the pusher's cell is another
  moved : slice_index to p ≢ cell_of w p
  moved e = apart_pf (seated.distinct p f pusher known (sym e ∙ held))

  pusher_left : slice_index tried p ≤ w.each
  pusher_left = elim (cases_lt w.each (slice_index tried p)) [
    | inl less ↦ absurd (moved (board.spent p pusher less))
    | inr more ↦ more
  ]

  -- the robot that holds the cell is the pusher
  holds : (x : ℕ) → x < robots w → slice_index to x ≡ cell_of w f → x ≡ p
  holds x kx e = sym (board.apart p x pusher kx (λ u. own_decided (sym held ∙ u)) (held ∙ sym e))

  other : (x d : ℕ) → slice_index to x ≡ d → d ≢ undecided → x ≢ f
  other x d e ne same = ne (sym e ∙ (ap (slice_index to) same ∙ idle))

  grown : (x : ℕ) → slice_index tried x ≤ slice_index tried' x
  grown x = elim (cases_eq x f) [
    | inl same ↦ omega (arith, ap (slice_index tried) same, ap (slice_index tried') same, at_tried, has_left w standing seated to tried f board)
    | inr ne ↦ omega (arith, off_tried x ne)
  ]

  yield_apart : (r q : ℕ) → r < robots w → q < robots w → slice_index to' r ≢ undecided → slice_index to' r ≡ slice_index to' q → r ≡ q
  yield_apart r q kr kq some e = elim (cases_eq r p) [
    | inl rp ↦ absurd (some (ap (slice_index to') rp ∙ at_pusher))
    | inr rn ↦ elim (cases_eq q p) [
      | inl qp ↦ absurd (some (e ∙ (ap (slice_index to') qp ∙ at_pusher)))
      | inr qn ↦ elim (cases_eq r f) [
        | inl rf ↦ elim (cases_eq q f) [
          | inl qf ↦ rf ∙ sym qf
          | inr qm ↦ absurd (qn (holds q kq (sym (off q qm qn) ∙ (sym e ∙ (ap (slice_index to') rf ∙ at)))))
        ]
        | inr rm ↦ elim (cases_eq q f) [
          | inl qf ↦ absurd (rn (holds r kr (sym (off r rm rn) ∙ (e ∙ (ap (slice_index to') qf ∙ at)))))
          | inr qm ↦ board.apart r q kr kq (λ u. some (off r rm rn ∙ u)) (sym (off r rm rn) ∙ (e ∙ off q qm qn))
        ]
      ]
    ]
  ]

  -- a robot that comes to another's cell, and is not the one that stays, is as before
  goes : (r q : ℕ) → q < robots w → slice_index to' r ≡ cell_of w q → r ≢ p
  goes r q kq e rp = cell_decided w standing seated q kq (sym e ∙ (ap (slice_index to') rp ∙ at_pusher))

  yield_swapless : (r q : ℕ) → r < robots w → q < robots w → slice_index to' r ≡ cell_of w q → slice_index to' q ≡ cell_of w r → r ≡ q
  yield_swapless r q kr kq e d = elim (cases_eq r f) [
    | inl rf ↦ rf ∙ seated.distinct f q known kq (sym at ∙ (ap (slice_index to') (sym rf) ∙ e))
    | inr rm ↦ elim (cases_eq q f) [
      | inl qf ↦ seated.distinct r f kr known (sym d ∙ (ap (slice_index to') qf ∙ at)) ∙ sym qf
      | inr qm ↦ board.swapless r q kr kq (sym (off r rm (goes r q kq e)) ∙ e) (sym (off q qm (goes q r kr d)) ∙ d)
    ]
  ]

  yield_edge : (r q : ℕ) → r < robots w → q < robots w → slice_index to' r ≡ cell_of w q → slice_index to' q ≡ undecided → Some p ≡ Some q
  yield_edge r q kr kq e u = elim (cases_eq q p) [
    | inl qp ↦ ap Some (sym qp)
    | inr qn ↦ elim (cases_eq q f) [
      | inl qf ↦ absurd (own_decided (sym at ∙ (ap (slice_index to') (sym qf) ∙ u)))
      | inr qm ↦ elim (cases_eq r f) [
        | inl rf ↦ absurd (qm (sym (seated.distinct f q known kq (sym at ∙ (ap (slice_index to') (sym rf) ∙ e)))))
        | inr rm ↦ absurd (qm (some_same (board.edge r q kr kq (sym (off r rm (goes r q kq e)) ∙ e) (sym (off q qm qn) ∙ u))))
      ]
    ]
  ]
    where
      some_same : Some f ≡ Some q → q ≡ f
      some_same e = cc e

  yield_idle : (q : ℕ) → Some p ≡ Some q → (q < robots w) × (slice_index to' q ≡ undecided)
  yield_idle q e =
      let same : p ≡ q = cc e in
      (omega (arith, same, pusher), ap (slice_index to') (sym same) ∙ at_pusher)

  yield_few : (r : ℕ) → r < robots w → slice_index tried' r ≤ w.each + 1
  yield_few r kr = elim (cases_eq r f) [
    | inl rf ↦ omega (arith, ap (slice_index tried') rf, at_tried)
    | inr rn ↦ omega (arith, off_tried r rn, board.few r kr)
  ]

  yield_spent : (r : ℕ) → r < robots w → w.each < slice_index tried' r → slice_index to' r ≡ cell_of w r
  yield_spent r kr less = elim (cases_eq r f) [
    | inl rf ↦ ap (slice_index to') rf ∙ (at ∙ ap (cell_of w) (sym rf))
    | inr rm ↦ elim (cases_eq r p) [
      | inl rp ↦ absurd (omega (arith, less, off_tried r rm, ap (slice_index tried) rp, pusher_left))
      | inr rn ↦ off r rm rn ∙ board.spent r kr (omega (arith, less, off_tried r rm))
    ]
  ]

  yield_chosen : (r : ℕ) → r < robots w → slice_index to' r ≢ undecided → slice_index tried' r ≤ w.each
      → (k : ℕ) × (slice_index tried' r ≡ suc k) × (preference w r k ≡ slice_index to' r)
  yield_chosen r kr some few = elim (cases_eq r f) [
    | inl rf ↦ absurd (omega (arith, few, ap (slice_index tried') rf, at_tried))
    | inr rm ↦ elim (cases_eq r p) [
      | inl rp ↦ absurd (some (ap (slice_index to') rp ∙ at_pusher))
      | inr rn ↦ (
          let it = board.chosen r kr (λ u. some (off r rm rn ∙ u)) (omega (arith, few, off_tried r rm)) in
          (it.0, off_tried r rm ∙ it.1, it.2 ∙ sym (off r rm rn)))
    ]
  ]

  pushed_now : (r : ℕ) → r < robots w → cell_of w f ≡ cell_of w r → WasBarred w to' tried' r (cell_of w p)
  pushed_now r kr same =
      let it = board.chosen p pusher (λ u. own_decided (sym held ∙ u)) pusher_left in
      let rf : f ≡ r = seated.distinct f r known kr same in
      pushed p it.0 pusher refl (omega (arith, it.1, off_tried p apart_pf)) (omega (arith, it.1, pusher_left)) (it.2 ∙ (held ∙ same))
      (ap (slice_index to') (sym rf) ∙ (at ∙ same))

  lift : (r d : ℕ) → r < robots w → d ≢ undecided → WasBarred w to tried r d → WasBarred w to' tried' r d
  lift r d kr some was = elim was [
    | taken q kq e ↦ elim (cases_eq q p) [
      | inl qp ↦ taken f known (at ∙ (sym held ∙ (ap (slice_index to) (sym qp) ∙ e)))
      | inr qn ↦ taken q kq (off q (other q d e some) qn ∙ e)
    ]
    | swaps q kq here e ↦ elim (cases_eq q p) [
      | inl qp ↦ subst (λ (x : ℕ). WasBarred w to' tried' r x) (ap (cell_of w) (sym qp) ∙ here)
          (pushed_now r kr (sym held ∙ (ap (slice_index to) (sym qp) ∙ e)))
      | inr qn ↦ swaps q kq here (off q (other q (cell_of w r) e (cell_decided w standing seated r kr)) qn ∙ e)
    ]
    | pushed q j kq here less within e stays ↦ pushed q j kq here (omega (arith, less, grown q)) within e
        (off r (other r (cell_of w r) stays (cell_decided w standing seated r kr)) (λ rp. moved (ap (slice_index to) (sym rp) ∙ (stays ∙ ap (cell_of w) rp))) ∙ stays)
  ]

  barred_own : (j : ℕ) → j < w.each → WasBarred w to tried f (preference w f j)
  barred_own j within = elim (cases_lt j (slice_index tried f)) [
    | inl before ↦ board.barred f j known before within (λ e. preference_decided w standing seated f j known within (sym e ∙ idle))
    | inr now ↦ barred_if_shut w to tried f (preference w f j) (shut j now within)
  ]

  barred_pusher : (j : ℕ) → j < slice_index tried p → j < w.each → WasBarred w to' tried' p (preference w p j)
  barred_pusher j less within = elim (cases_eq (slice_index to p) (preference w p j)) [
    | inl same ↦ taken f known (at ∙ (sym held ∙ same))
    | inr ne ↦ lift p (preference w p j) pusher (preference_decided w standing seated p j pusher within) (board.barred p j pusher less within ne)
  ]

  yield_barred : (r j : ℕ) → r < robots w → j < slice_index tried' r → j < w.each → slice_index to' r ≢ preference w r j
      → WasBarred w to' tried' r (preference w r j)
  yield_barred r j kr less within ne = elim (cases_eq r f) [
    | inl rf ↦ subst (λ (x : ℕ). WasBarred w to' tried' x (preference w x j)) (sym rf)
        (lift f (preference w f j) known (preference_decided w standing seated f j known within) (barred_own j within))
    | inr rm ↦ elim (cases_eq r p) [
      | inl rp ↦ subst (λ (x : ℕ). WasBarred w to' tried' x (preference w x j)) (sym rp)
          (barred_pusher j (omega (arith, less, off_tried r rm, ap (slice_index tried) rp)) within)
      | inr rn ↦ lift r (preference w r j) kr (preference_decided w standing seated r j kr within)
          (board.barred r j kr (omega (arith, less, off_tried r rm)) within (λ e. ne (off r rm rn ∙ e)))
    ]
  ]

  pub yield_board : IsBoard w to' tried' (Some p)
  yield_board = record {
    news = length-set (slice_set to p undecided) f (cell_of w f) ∙ (length-set to p undecided ∙ board.news);
    counts = length-set tried f (w.each + 1) ∙ board.counts;
    apart = yield_apart;
    swapless = yield_swapless;
    edge = yield_edge;
    idle = yield_idle;
    few = yield_few;
    spent = yield_spent;
    chosen = yield_chosen;
    barred = yield_barred;
  }
