-- The robots that push one another from the first robot on.
use Rattle.std.proofs.Common.{◌≡◌, ◌≢◌, ℕ, zero, suc, ◌+◌, ◌-◌, ◌<◌, ◌≤◌, ◌⊎◌, inl, inr, cond, eqb, List, length, slice_index, slice_set, Option, Some, None, MatchOption, sym, ap, subst, refl, ◌∙◌, arith}
use Rattle.std.proofs.Math.ListN.{length-set}
use Rattle.std.proofs.lemmas.Bool.{cases_eq, cases_lt}
use Rattle.std.proofs.lemmas.Bool.Decides.{eqb_tells}
use Rattle.std.proofs.lemmas.List.{get_or-set_same, get_or-set_other}
use Rattle.fleet_shield.specs.Wishes.{Wishes, robots, cell_of, preference}
use Rattle.fleet_shield.specs.inside.Board.{undecided, AreSeated, IsShut, Reserves, Stays, Yields, Chooses, IsBoard}
use Rattle.fleet_shield.specs.inside.Board.IsShut.{held, meets}
use Rattle.fleet_shield.specs.inside.Board.Chooses.{reserves, stays}
use Rattle.fleet_shield.specs.inside.First.{IsBlank, IsOther}
use Rattle.fleet_shield.proofs.Seated.{cell_decided, preference_decided}
use Rattle.fleet_shield.proofs.Stuck.{stuck_never}

-- `c` has the robots that push one another, from `e` to the one that has to choose, which is `n` pushes away
pub record IsChained (w : Wishes) (e : ℕ) (to tried : List ℕ) (top : ℕ) (c : ℕ → ℕ) (n : ℕ) : Type 0 where
  pub first_is : c 0 ≡ e
  pub last_is : c n ≡ top
  pub known : (j : ℕ) → j ≤ n → c j < robots w
  pub links : (j : ℕ) → j < n → slice_index to (c j) ≡ cell_of w (c (j + 1))
  pub once : (i j : ℕ) → i ≤ n → j ≤ n → c i ≡ c j → i ≡ j
  pub rest : (r : ℕ) → r < robots w → slice_index to r ≢ undecided → (w.each < slice_index tried r) ⊎ ((j : ℕ) × (j < n) × (c j ≡ r))
  pub touched : (r : ℕ) → r < robots w → 0 < slice_index tried r → (slice_index to r ≢ undecided) ⊎ (r ≡ top)
  pub holds : 0 < n → (slice_index to e ≡ preference w e 0) × (slice_index tried e ≡ 1)
  pub start : n ≡ 0 → IsBlank w to tried

-- the first robot has its first preference, or a chain leads from it to the one that has to choose
pub record Leads (w : Wishes) (e : ℕ) (to tried : List ℕ) (next : Option ℕ) : Type 0 where
  pub done : next ≡ None → slice_index to e ≡ preference w e 0
  pub going : (f : ℕ) → next ≡ Some f → (c : ℕ → ℕ) × (n : ℕ) × IsChained w e to tried f c n

pub leads_start : (w : Wishes) (e : ℕ) (to tried : List ℕ) → e < robots w → IsBlank w to tried → Leads w e to tried (Some e)
leads_start w e to tried known blank = record {
  done = λ none. absurd (cc none);
  going = λ f at. (
    λ _. e,
    0,
    record {
      first_is = refl;
      last_is = some_same f at;
      known = λ j small. known;
      links = λ j less. absurd (omega (arith, less));
      once = λ i j li lj same. omega (arith, li, lj);
      rest = λ r kr some. absurd (some (blank r kr).0);
      touched = λ r kr some. absurd (omega (arith, some, (blank r kr).1));
      holds = λ less. absurd (omega (arith, less));
      start = λ none. blank;
    },
  );
}
  where
    some_same : (f : ℕ) → Some e ≡ Some f → e ≡ f
    some_same f at = cc at

-- before any robot has chosen, no preference is shut
pub blank_open : (w : Wishes) (standing : List ℕ) → AreSeated w standing → (to tried : List ℕ) → IsBlank w to tried → (f j : ℕ) → f < robots w → j < w.each → IsShut w to f (preference w f j) → ⊥
blank_open w standing seated to tried blank f j known within shut = elim shut [
  | held q kq e ↦ preference_decided w standing seated f j known within (sym e ∙ (blank q kq).0)
  | meets q kq here e ↦ cell_decided w standing seated f known (sym e ∙ (blank q kq).0)
]

-- the chain with one robot more
grown : (ℕ → ℕ) → ℕ → ℕ → ℕ → ℕ
grown c n q x = cond (eqb x (n + 1)) q (c x)

grown_at : (c : ℕ → ℕ) (n q x : ℕ) → x ≡ n + 1 → grown c n q x ≡ q
unfolding grown
grown_at c n q x e = elim (eqb_tells x (n + 1)) [ inl p ↦ rw p.0 refl | inr p ↦ absurd (p.1 e) ]

grown_off : (c : ℕ → ℕ) (n q x : ℕ) → x ≢ n + 1 → grown c n q x ≡ c x
unfolding grown
grown_off c n q x ne = elim (eqb_tells x (n + 1)) [ inl p ↦ absurd (ne p.1) | inr p ↦ rw p.0 refl ]

module _ (w : Wishes) (standing : List ℕ) (seated : AreSeated w standing) (e : ℕ) (other : List ℕ) (is : IsOther w e other)
    (to tried : List ℕ) (f : ℕ) (board : IsBoard w to tried (Some f)) (c : ℕ → ℕ) (n : ℕ) (chain : IsChained w e to tried f c n) where
  known : f < robots w
  known = (board.idle f refl).0

  idle : slice_index to f ≡ undecided
  idle = (board.idle f refl).1

  pub known_e : e < robots w
  known_e = omega (arith, chain.known 0 (omega arith), chain.first_is)

  only_first : n ≡ 0 → f ≡ e
  only_first none = sym chain.last_is ∙ (ap c none ∙ chain.first_is)

  pub apart_first : 0 < n → e ≢ f
  apart_first some same = omega (arith, some, chain.once 0 n (omega arith) (omega arith) (chain.first_is ∙ (same ∙ sym chain.last_is)))

  pub apart_link : (j : ℕ) → j < n → c j ≢ f
  apart_link j less same = omega (arith, less, chain.once j n (omega (arith, less)) (omega arith) (same ∙ sym chain.last_is))

  link_decided : (j : ℕ) → j < n → slice_index to (c j) ≢ undecided
  link_decided j less u = cell_decided w standing seated (c (j + 1)) (chain.known (j + 1) (omega (arith, less))) (sym (chain.links j less) ∙ u)

  module _ (k : ℕ) (to' tried' : List ℕ) (next : Option ℕ) (r : Reserves w to tried f k to' tried' next) where
    at : slice_index to' f ≡ preference w f k
    at = ap (λ (xs : List ℕ). slice_index xs f) r.to_is ∙ get_or-set_same to f (preference w f k) 0 (omega (arith, known, board.news))

    off : (x : ℕ) → x ≢ f → slice_index to' x ≡ slice_index to x
    off x ne = ap (λ (xs : List ℕ). slice_index xs x) r.to_is ∙ get_or-set_other to f x (preference w f k) 0 ne

    at_tried : slice_index tried' f ≡ k + 1
    at_tried = ap (λ (xs : List ℕ). slice_index xs f) r.tried_is ∙ get_or-set_same tried f (k + 1) 0 (omega (arith, known, board.counts))

    off_tried : (x : ℕ) → x ≢ f → slice_index tried' x ≡ slice_index tried x
    off_tried x ne = ap (λ (xs : List ℕ). slice_index xs x) r.tried_is ∙ get_or-set_other tried f x (k + 1) 0 ne

    at_decided : slice_index to' f ≢ undecided
    at_decided u = preference_decided w standing seated f k known r.within (sym at ∙ u)

    link_still : (j : ℕ) → j ≤ n → slice_index to' (c j) ≢ undecided
    link_still j le = elim (cases_eq j n) [
      | inl same ↦ λ u. at_decided (ap (slice_index to') (sym chain.last_is ∙ ap c (sym same)) ∙ u)
      | inr ne ↦ λ u. link_decided j (omega (arith, le, ne)) (sym (off (c j) (apart_link j (omega (arith, le, ne)))) ∙ u)
    ]

    -- the first robot begins with its first preference
    begins : n ≡ 0 → k ≡ 0
    begins none = elim (cases_eq k 0) [
      | inl same ↦ same
      | inr some ↦ absurd (
          let blank = chain.start none in
          blank_open w standing seated to tried blank f 0 known is.some (r.shut 0 (omega (arith, (blank f known).1)) (omega (arith, some))))
    ]

    has_first : (slice_index to' e ≡ preference w e 0) × (slice_index tried' e ≡ 1)
    has_first = elim (cases_eq n 0) [
      | inl none ↦ (
          let fe = only_first none in (
            ap (slice_index to') (sym fe) ∙ (at ∙ (ap (preference w f) (begins none) ∙ ap (λ (x : ℕ). preference w x 0) fe)),
            ap (slice_index tried') (sym fe) ∙ omega (arith, at_tried, begins none),
          ))
      | inr some ↦ (
          let ne = apart_first (omega (arith, some)) in
          let it = chain.holds (omega (arith, some)) in
          (off e ne ∙ it.0, off_tried e ne ∙ it.1))
    ]

    module _ (q : ℕ) (known_q : q < robots w) (here : cell_of w q ≡ preference w f k) (free : slice_index to' q ≡ undecided) where
      push_links : (j : ℕ) → j < n + 1 → slice_index to' (grown c n q j) ≡ cell_of w (grown c n q (j + 1))
      push_links j less = elim (cases_eq j n) [
        | inl same ↦ ap (slice_index to') (grown_off c n q j (λ e. omega (arith, e, same)) ∙ (ap c same ∙ chain.last_is))
            ∙ (at ∙ (sym here ∙ ap (cell_of w) (sym (grown_at c n q (j + 1) (omega (arith, same))))))
        | inr ne ↦ (
            let small : j < n = omega (arith, less, ne) in
            ap (slice_index to') (grown_off c n q j (λ e. omega (arith, e, small))) ∙ (off (c j) (apart_link j small)
            ∙ (chain.links j small ∙ ap (cell_of w) (sym (grown_off c n q (j + 1) (λ e. omega (arith, e, small)))))))
      ]

      push_known : (j : ℕ) → j ≤ n + 1 → grown c n q j < robots w
      push_known j le = elim (cases_eq j (n + 1)) [
        | inl same ↦ omega (arith, grown_at c n q j same, known_q)
        | inr ne ↦ omega (arith, grown_off c n q j ne, chain.known j (omega (arith, le, ne)))
      ]

      new : (j : ℕ) → j ≤ n → q ≢ c j
      new j le same = link_still j le (ap (slice_index to') (sym same) ∙ free)

      push_once : (i j : ℕ) → i ≤ n + 1 → j ≤ n + 1 → grown c n q i ≡ grown c n q j → i ≡ j
      push_once i j li lj same = elim (cases_eq i (n + 1)) [
        | inl si ↦ elim (cases_eq j (n + 1)) [
          | inl sj ↦ si ∙ sym sj
          | inr nj ↦ absurd (new j (omega (arith, lj, nj)) (sym (grown_at c n q i si) ∙ (same ∙ grown_off c n q j nj)))
        ]
        | inr ni ↦ elim (cases_eq j (n + 1)) [
          | inl sj ↦ absurd (new i (omega (arith, li, ni)) (sym (grown_at c n q j sj) ∙ (sym same ∙ grown_off c n q i ni)))
          | inr nj ↦ chain.once i j (omega (arith, li, ni)) (omega (arith, lj, nj)) (sym (grown_off c n q i ni) ∙ (same ∙ grown_off c n q j nj))
        ]
      ]

      push_rest : (x : ℕ) → x < robots w → slice_index to' x ≢ undecided → (w.each < slice_index tried' x) ⊎ ((j : ℕ) × (j < n + 1) × (grown c n q j ≡ x))
      push_rest x kx some = elim (cases_eq x f) [
        | inl same ↦ inr (n, omega arith, grown_off c n q n (λ e. omega (arith, e)) ∙ (chain.last_is ∙ sym same))
        | inr ne ↦ elim (chain.rest x kx (λ u. some (off x ne ∙ u))) [
          | inl failed ↦ inl (omega (arith, failed, off_tried x ne))
          | inr it ↦ inr (it.0, omega (arith, it.1), grown_off c n q it.0 (λ e. omega (arith, e, it.1)) ∙ it.2)
        ]
      ]

      push_touched : (x : ℕ) → x < robots w → 0 < slice_index tried' x → (slice_index to' x ≢ undecided) ⊎ (x ≡ q)
      push_touched x kx some = elim (cases_eq x f) [
        | inl same ↦ inl (λ u. at_decided (ap (slice_index to') (sym same) ∙ u))
        | inr ne ↦ elim (chain.touched x kx (omega (arith, some, off_tried x ne))) [
          | inl decided ↦ inl (λ u. decided (sym (off x ne) ∙ u))
          | inr top ↦ absurd (ne top)
        ]
      ]

      push_chain : IsChained w e to' tried' q (grown c n q) (n + 1)
      push_chain = record {
        first_is = grown_off c n q 0 (λ e. omega (arith, e)) ∙ chain.first_is;
        last_is = grown_at c n q (n + 1) refl;
        known = push_known;
        links = push_links;
        once = push_once;
        rest = push_rest;
        touched = push_touched;
        holds = λ some. has_first;
        start = λ none. absurd (omega (arith, none));
      }

    pub reserve_leads : Leads w e to' tried' next
    reserve_leads = record {
      done = λ none. has_first.0;
      going = λ q at_q. let it = found next at_q r.next_is in (grown c n q, n + 1, push_chain q it.0 it.1 it.2);
    }
      where
        found : {q : ℕ} (o : Option ℕ) → o ≡ Some q → MatchOption o
            ((q : ℕ) → q < robots w → cell_of w q ≡ preference w f k → slice_index to' q ≢ undecided)
            (λ q. (q < robots w) × (cell_of w q ≡ preference w f k) × (slice_index to' q ≡ undecided))
            → (q < robots w) × (cell_of w q ≡ preference w f k) × (slice_index to' q ≡ undecided)
        found None e none = absurd (cc e)
        found {q} (Some p) e some =
            let same : p ≡ q = cc e in
            subst (λ (x : ℕ). (x < robots w) × (cell_of w x ≡ preference w f k) × (slice_index to' x ≡ undecided)) same some
