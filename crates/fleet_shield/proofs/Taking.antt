-- A robot takes a cell that is open to it.
use Rattle.std.proofs.Common.{◌≡◌, ◌≢◌, ℕ, suc, ◌+◌, ◌<◌, ◌≤◌, inl, inr, List, length, slice_index, slice_set, Option, Some, None, MatchOption, sym, ap, subst, refl, ◌∙◌, arith}
use Rattle.std.proofs.Math.ListN.{length-set}
use Rattle.std.proofs.lemmas.Bool.{cases_eq, cases_lt}
use Rattle.std.proofs.lemmas.List.{get_or-set_same, get_or-set_other}
use Rattle.fleet_shield.specs.Wishes.{Wishes, robots, cell_of, preference}
use Rattle.fleet_shield.specs.inside.Board.{undecided, AreSeated, IsOpen, IsShut, WasBarred, IsBoard}
use Rattle.fleet_shield.specs.inside.Board.IsShut.{held, meets}
use Rattle.fleet_shield.specs.inside.Board.WasBarred.{taken, swaps, pushed}
use Rattle.fleet_shield.proofs.Seated.{cell_decided, preference_decided}

-- a cell that is shut now bars the robot
pub barred_if_shut : (w : Wishes) (to tried : List ℕ) (r c : ℕ) → IsShut w to r c → WasBarred w to tried r c
barred_if_shut w to tried r c shut = elim shut [
  | held q known e ↦ taken q known e
  | meets q known here e ↦ swaps q known here e
]

-- the robot `f` takes the cell `c`, and has tried `m`
pub record Takes (w : Wishes) (to tried : List ℕ) (f c m : ℕ) (next : Option ℕ) : Type 0 where
  pub is_open : IsOpen w to f c
  pub decided : c ≢ undecided
  pub low : slice_index tried f ≤ m
  pub high : m ≤ w.each + 1
  pub own : w.each < m → c ≡ cell_of w f
  pub chosen : m ≤ w.each → (k : ℕ) × (m ≡ suc k) × (preference w f k ≡ c)
  pub shut : (j : ℕ) → slice_index tried f ≤ j → j < m → j < w.each → c ≢ preference w f j → IsShut w to f (preference w f j)
  pub next_is : MatchOption next
      ((q : ℕ) → q < robots w → cell_of w q ≡ c → slice_index (slice_set to f c) q ≢ undecided)
      (λ q. (q < robots w) × (cell_of w q ≡ c) × (slice_index (slice_set to f c) q ≡ undecided))

module _ (w : Wishes) (standing : List ℕ) (seated : AreSeated w standing) (to tried : List ℕ) (f c m : ℕ) (next : Option ℕ)
    (board : IsBoard w to tried (Some f)) (takes : Takes w to tried f c m next) where
  abbrev to' : List ℕ
  to' = slice_set to f c

  abbrev tried' : List ℕ
  tried' = slice_set tried f m

  known : f < robots w
  known = (board.idle f refl).0

  idle : slice_index to f ≡ undecided
  idle = (board.idle f refl).1

  at : slice_index to' f ≡ c
  at = get_or-set_same to f c 0 (omega (arith, known, board.news))

  pub off : (x : ℕ) → x ≢ f → slice_index to' x ≡ slice_index to x
  off x ne = get_or-set_other to f x c 0 ne

  at_tried : slice_index tried' f ≡ m
  at_tried = get_or-set_same tried f m 0 (omega (arith, known, board.counts))

  off_tried : (x : ℕ) → x ≢ f → slice_index tried' x ≡ slice_index tried x
  off_tried x ne = get_or-set_other tried f x m 0 ne

  -- a robot that has decided is not this one
  other : (x d : ℕ) → slice_index to x ≡ d → d ≢ undecided → x ≢ f
  other x d e ne same = ne (sym e ∙ (ap (slice_index to) same ∙ idle))

  grown : (x : ℕ) → slice_index tried x ≤ slice_index tried' x
  grown x = elim (cases_eq x f) [
    | inl same ↦ omega (arith, ap (slice_index tried) same, ap (slice_index tried') same, at_tried, takes.low)
    | inr ne ↦ omega (arith, off_tried x ne)
  ]

  take_apart : (r q : ℕ) → r < robots w → q < robots w → slice_index to' r ≢ undecided → slice_index to' r ≡ slice_index to' q → r ≡ q
  take_apart r q kr kq some e = elim (cases_eq r f) [
    | inl rf ↦ elim (cases_eq q f) [
      | inl qf ↦ rf ∙ sym qf
      | inr qn ↦ absurd (takes.is_open.free q kq (sym (off q qn) ∙ (sym e ∙ (ap (slice_index to') rf ∙ at))))
    ]
    | inr rn ↦ elim (cases_eq q f) [
      | inl qf ↦ absurd (takes.is_open.free r kr (sym (off r rn) ∙ (e ∙ (ap (slice_index to') qf ∙ at))))
      | inr qn ↦ board.apart r q kr kq (λ u. some (off r rn ∙ u)) (sym (off r rn) ∙ (e ∙ off q qn))
    ]
  ]

  take_swapless : (r q : ℕ) → r < robots w → q < robots w → slice_index to' r ≡ cell_of w q → slice_index to' q ≡ cell_of w r → r ≡ q
  take_swapless r q kr kq e d = elim (cases_eq r f) [
    | inl rf ↦ elim (cases_eq q f) [
      | inl qf ↦ rf ∙ sym qf
      | inr qn ↦ absurd (takes.is_open.clear q kq (sym e ∙ (ap (slice_index to') rf ∙ at)) (sym (off q qn) ∙ (d ∙ ap (cell_of w) rf)))
    ]
    | inr rn ↦ elim (cases_eq q f) [
      | inl qf ↦ absurd (takes.is_open.clear r kr (sym d ∙ (ap (slice_index to') qf ∙ at)) (sym (off r rn) ∙ (e ∙ ap (cell_of w) qf)))
      | inr qn ↦ board.swapless r q kr kq (sym (off r rn) ∙ e) (sym (off q qn) ∙ d)
    ]
  ]

  next_some : (q : ℕ) → q < robots w → cell_of w q ≡ c → slice_index to' q ≡ undecided → next ≡ Some q
  next_some q kq here u = found next takes.next_is
    where
      found : (o : Option ℕ) → MatchOption o
          ((q : ℕ) → q < robots w → cell_of w q ≡ c → slice_index (slice_set to f c) q ≢ undecided)
          (λ q. (q < robots w) × (cell_of w q ≡ c) × (slice_index (slice_set to f c) q ≡ undecided)) → o ≡ Some q
      found None none = absurd (none q kq here u)
      found (Some p) some = ap Some (seated.distinct p q some.0 kq (some.1 ∙ sym here))

  take_edge : (r q : ℕ) → r < robots w → q < robots w → slice_index to' r ≡ cell_of w q → slice_index to' q ≡ undecided → next ≡ Some q
  take_edge r q kr kq e u = elim (cases_eq q f) [
    | inl qf ↦ absurd (takes.decided (sym at ∙ (ap (slice_index to') (sym qf) ∙ u)))
    | inr qn ↦ elim (cases_eq r f) [
      | inl rf ↦ next_some q kq (sym e ∙ (ap (slice_index to') rf ∙ at)) u
      | inr rn ↦ absurd (qn (some_same (board.edge r q kr kq (sym (off r rn) ∙ e) (sym (off q qn) ∙ u))))
    ]
  ]
    where
      some_same : Some f ≡ Some q → q ≡ f
      some_same e = cc e

  take_idle : (q : ℕ) → next ≡ Some q → (q < robots w) × (slice_index to' q ≡ undecided)
  take_idle q e = found next e takes.next_is
    where
      found : (o : Option ℕ) → o ≡ Some q → MatchOption o
          ((q : ℕ) → q < robots w → cell_of w q ≡ c → slice_index (slice_set to f c) q ≢ undecided)
          (λ q. (q < robots w) × (cell_of w q ≡ c) × (slice_index (slice_set to f c) q ≡ undecided)) → (q < robots w) × (slice_index to' q ≡ undecided)
      found None e none = absurd (cc e)
      found (Some p) e some =
          let same : p ≡ q = cc e in
          (omega (arith, same, some.0), ap (slice_index to') (sym same) ∙ some.2)

  take_few : (r : ℕ) → r < robots w → slice_index tried' r ≤ w.each + 1
  take_few r kr = elim (cases_eq r f) [
    | inl rf ↦ omega (arith, ap (slice_index tried') rf, at_tried, takes.high)
    | inr rn ↦ omega (arith, off_tried r rn, board.few r kr)
  ]

  take_spent : (r : ℕ) → r < robots w → w.each < slice_index tried' r → slice_index to' r ≡ cell_of w r
  take_spent r kr less = elim (cases_eq r f) [
    | inl rf ↦ ap (slice_index to') rf ∙ (at ∙ (takes.own (omega (arith, less, ap (slice_index tried') rf, at_tried)) ∙ ap (cell_of w) (sym rf)))
    | inr rn ↦ off r rn ∙ board.spent r kr (omega (arith, less, off_tried r rn))
  ]

  take_chosen : (r : ℕ) → r < robots w → slice_index to' r ≢ undecided → slice_index tried' r ≤ w.each
      → (k : ℕ) × (slice_index tried' r ≡ suc k) × (preference w r k ≡ slice_index to' r)
  take_chosen r kr some few = elim (cases_eq r f) [
    | inl rf ↦ (
        let it = takes.chosen (omega (arith, few, ap (slice_index tried') rf, at_tried)) in
        (it.0, ap (slice_index tried') rf ∙ (at_tried ∙ it.1), ap (λ (x : ℕ). preference w x it.0) rf ∙ (it.2 ∙ (sym at ∙ ap (slice_index to') (sym rf)))))
    | inr rn ↦ (
        let it = board.chosen r kr (λ u. some (off r rn ∙ u)) (omega (arith, few, off_tried r rn)) in
        (it.0, off_tried r rn ∙ it.1, it.2 ∙ sym (off r rn)))
  ]

  lift : (r d : ℕ) → r < robots w → d ≢ undecided → WasBarred w to tried r d → WasBarred w to' tried' r d
  lift r d kr some was = elim was [
    | taken q kq e ↦ taken q kq (off q (other q d e some) ∙ e)
    | swaps q kq here e ↦ swaps q kq here (off q (other q (cell_of w r) e (cell_decided w standing seated r kr)) ∙ e)
    | pushed q j kq here less within e stays ↦
        pushed q j kq here (omega (arith, less, grown q)) within e (off r (other r (cell_of w r) stays (cell_decided w standing seated r kr)) ∙ stays)
  ]

  barred_own : (j : ℕ) → j < m → j < w.each → c ≢ preference w f j → WasBarred w to tried f (preference w f j)
  barred_own j less within ne = elim (cases_lt j (slice_index tried f)) [
    | inl before ↦ board.barred f j known before within (λ e. preference_decided w standing seated f j known within (sym e ∙ idle))
    | inr now ↦ barred_if_shut w to tried f (preference w f j) (takes.shut j now less within ne)
  ]

  take_barred : (r j : ℕ) → r < robots w → j < slice_index tried' r → j < w.each → slice_index to' r ≢ preference w r j
      → WasBarred w to' tried' r (preference w r j)
  take_barred r j kr less within ne = lift r (preference w r j) kr (preference_decided w standing seated r j kr within) (elim (cases_eq r f) [
    | inl rf ↦ subst (λ (x : ℕ). WasBarred w to tried x (preference w x j)) (sym rf)
        (barred_own j (omega (arith, less, ap (slice_index tried') rf, at_tried)) within
        (λ e. ne (ap (slice_index to') rf ∙ (at ∙ (e ∙ ap (λ (x : ℕ). preference w x j) (sym rf))))))
    | inr rn ↦ board.barred r j kr (omega (arith, less, off_tried r rn)) within (λ e. ne (off r rn ∙ e))
  ])

  pub take_board : IsBoard w to' tried' next
  take_board = record {
    news = length-set to f c ∙ board.news;
    counts = length-set tried f m ∙ board.counts;
    apart = take_apart;
    swapless = take_swapless;
    edge = take_edge;
    idle = take_idle;
    few = take_few;
    spent = take_spent;
    chosen = take_chosen;
    barred = take_barred;
  }
