-- The chain of pushes where its last robot stays.
use Rattle.std.proofs.Common.{◌≡◌, ◌≢◌, ℕ, zero, suc, ◌+◌, ◌-◌, ◌<◌, ◌≤◌, ◌⊎◌, inl, inr, List, length, slice_index, slice_set, Option, Some, None, sym, ap, subst, refl, ◌∙◌, arith}
use Rattle.std.proofs.Math.ListN.{length-set}
use Rattle.std.proofs.lemmas.Bool.{cases_eq, cases_lt}
use Rattle.std.proofs.lemmas.List.{get_or-set_same, get_or-set_other}
use Rattle.fleet_shield.specs.Wishes.{Wishes, robots, cell_of, preference}
use Rattle.fleet_shield.specs.inside.Board.{undecided, AreSeated, IsShut, Yields, Chooses, IsBoard}
use Rattle.fleet_shield.specs.inside.Board.Chooses.{reserves, stays}
use Rattle.fleet_shield.specs.inside.First.{IsBlank, IsOther}
use Rattle.fleet_shield.proofs.Seated.{cell_decided}
use Rattle.fleet_shield.proofs.Leading.{IsChained, Leads, blank_open, known_e, apart_first, apart_link, reserve_leads}
use Rattle.fleet_shield.proofs.Stuck.{stuck_never}

module _ (w : Wishes) (standing : List ℕ) (seated : AreSeated w standing) (e : ℕ) (other : List ℕ) (is : IsOther w e other)
    (to tried : List ℕ) (f : ℕ) (board : IsBoard w to tried (Some f))
    (shut : (j : ℕ) → slice_index tried f ≤ j → j < w.each → IsShut w to f (preference w f j)) where
  known : f < robots w
  known = (board.idle f refl).0

  own_decided : cell_of w f ≢ undecided
  own_decided = cell_decided w standing seated f known

  -- the robot that holds the cell is the one before in the chain
  holder_is : (c : ℕ → ℕ) (m p : ℕ) → IsChained w e to tried f c (m + 1) → p < robots w → slice_index to p ≡ cell_of w f → p ≡ c m
  holder_is c m p chain kp held = board.apart p (c m) kp (chain.known m (omega arith)) (λ u. own_decided (sym held ∙ u))
      (held ∙ (ap (cell_of w) (sym chain.last_is) ∙ sym (chain.links m (omega arith))))

  -- not the first robot itself, nor one that it pushed
  none_stuck : (c : ℕ → ℕ) → IsChained w e to tried f c 1 → ⊥
  none_stuck c chain =
      let ne : e ≢ f = apart_first w standing seated e other is to tried f board c 1 chain (omega arith) in
      let has = chain.holds (omega arith) in
      stuck_never w standing seated to tried e f board (known_e w standing seated e other is to tried f board c 1 chain) ne
      (ap (slice_index to) (sym chain.first_is) ∙ (chain.links 0 (omega arith) ∙ ap (cell_of w) chain.last_is))
      has.0 has.1
      (λ r kr some. elim (chain.rest r kr some) [
        | inl failed ↦ inl failed
        | inr it ↦ inr (sym it.2 ∙ (ap c (omega (arith, it.1)) ∙ chain.first_is))
      ])
      chain.touched shut other is

  module _ (c : ℕ → ℕ) (m p : ℕ) (chain : IsChained w e to tried f c (m + 1)) (some : 0 < m) (pusher : p < robots w) (held : slice_index to p ≡ cell_of w f) where
    abbrev to' : List ℕ
    to' = slice_set (slice_set to p undecided) f (cell_of w f)

    abbrev tried' : List ℕ
    tried' = slice_set tried f (w.each + 1)

    p_is : p ≡ c m
    p_is = holder_is c m p chain pusher held

    at : slice_index to' f ≡ cell_of w f
    at = get_or-set_same (slice_set to p undecided) f (cell_of w f) 0 (omega (arith, known, board.news, length-set to p undecided))

    apart_pf : p ≢ f
    apart_pf same = own_decided (sym held ∙ (ap (slice_index to) same ∙ (board.idle f refl).1))

    at_pusher : slice_index to' p ≡ undecided
    at_pusher = get_or-set_other (slice_set to p undecided) f p (cell_of w f) 0 apart_pf ∙ get_or-set_same to p undecided 0 (omega (arith, pusher, board.news))

    off : (x : ℕ) → x ≢ f → x ≢ p → slice_index to' x ≡ slice_index to x
    off x nf np = get_or-set_other (slice_set to p undecided) f x (cell_of w f) 0 nf ∙ get_or-set_other to p x undecided 0 np

    at_tried : slice_index tried' f ≡ w.each + 1
    at_tried = get_or-set_same tried f (w.each + 1) 0 (omega (arith, known, board.counts))

    off_tried : (x : ℕ) → x ≢ f → slice_index tried' x ≡ slice_index tried x
    off_tried x ne = get_or-set_other tried f x (w.each + 1) 0 ne

    not_top : (j : ℕ) → j < m → c j ≢ f
    not_top j less = apart_link w standing seated e other is to tried f board c (m + 1) chain j (omega (arith, less))

    not_pusher : (j : ℕ) → j < m → c j ≢ p
    not_pusher j less same = omega (arith, less, chain.once j m (omega (arith, less)) (omega arith) (same ∙ p_is))

    pop_links : (j : ℕ) → j < m → slice_index to' (c j) ≡ cell_of w (c (j + 1))
    pop_links j less = off (c j) (not_top j less) (not_pusher j less) ∙ chain.links j (omega (arith, less))

    pop_rest : (r : ℕ) → r < robots w → slice_index to' r ≢ undecided → (w.each < slice_index tried' r) ⊎ ((j : ℕ) × (j < m) × (c j ≡ r))
    pop_rest r kr here = elim (cases_eq r f) [
      | inl rf ↦ inl (omega (arith, ap (slice_index tried') rf, at_tried))
      | inr nf ↦ elim (cases_eq r p) [
        | inl rp ↦ absurd (here (ap (slice_index to') rp ∙ at_pusher))
        | inr np ↦ elim (chain.rest r kr (λ u. here (off r nf np ∙ u))) [
          | inl failed ↦ inl (omega (arith, failed, off_tried r nf))
          | inr it ↦ elim (cases_eq it.0 m) [
            | inl last ↦ absurd (np (sym it.2 ∙ (ap c last ∙ sym p_is)))
            | inr early ↦ inr (it.0, omega (arith, it.1, early), it.2)
          ]
        ]
      ]
    ]

    pop_touched : (r : ℕ) → r < robots w → 0 < slice_index tried' r → (slice_index to' r ≢ undecided) ⊎ (r ≡ p)
    pop_touched r kr more = elim (cases_eq r p) [
      | inl rp ↦ inr rp
      | inr np ↦ elim (cases_eq r f) [
        | inl rf ↦ inl (λ u. own_decided (sym at ∙ (ap (slice_index to') (sym rf) ∙ u)))
        | inr nf ↦ elim (chain.touched r kr (omega (arith, more, off_tried r nf))) [
          | inl decided ↦ inl (λ u. decided (sym (off r nf np) ∙ u))
          | inr top ↦ absurd (nf top)
        ]
      ]
    ]

    pop_holds : (slice_index to' e ≡ preference w e 0) × (slice_index tried' e ≡ 1)
    pop_holds =
        let nf : e ≢ f = λ same. not_top 0 some (chain.first_is ∙ same) in
        let np : e ≢ p = λ same. not_pusher 0 some (chain.first_is ∙ same) in
        let it = chain.holds (omega arith) in
        (off e nf np ∙ it.0, off_tried e nf ∙ it.1)

    pop_chain : IsChained w e to' tried' p c m
    pop_chain = record {
      first_is = chain.first_is;
      last_is = sym p_is;
      known = λ j le. chain.known j (omega (arith, le));
      links = pop_links;
      once = λ i j li lj. chain.once i j (omega (arith, li)) (omega (arith, lj));
      rest = pop_rest;
      touched = pop_touched;
      holds = λ more. pop_holds;
      start = λ none. absurd (omega (arith, none, some));
    }

  -- by how long the chain is
  stay_chain : (c : ℕ → ℕ) (n p : ℕ) → IsChained w e to tried f c n → p < robots w → slice_index to p ≡ cell_of w f
      → (m : ℕ) × IsChained w e (slice_set (slice_set to p undecided) f (cell_of w f)) (slice_set tried f (w.each + 1)) p c m
  stay_chain c n p chain kp held = elim (cases_eq n 0) [
    | inl none ↦ absurd (own_decided (sym held ∙ (chain.start none p kp).0))
    | inr some ↦ (
        let longer : IsChained w e to tried f c ((n - 1) + 1) = subst (λ (x : ℕ). IsChained w e to tried f c x) (omega (arith, some)) chain in
        elim (cases_eq n 1) [
          | inl one ↦ absurd (none_stuck c (subst (λ (x : ℕ). IsChained w e to tried f c x) one chain))
          | inr more ↦ (n - 1, pop_chain c (n - 1) p longer (omega (arith, some, more)) kp held)
        ])
  ]

  stay_alone : (c : ℕ → ℕ) (n : ℕ) → IsChained w e to tried f c n → ((q : ℕ) → q < robots w → slice_index to q ≢ cell_of w f) → ⊥
  stay_alone c n chain free = elim (cases_eq n 0) [
    | inl none ↦ (
        let blank = chain.start none in
        blank_open w standing seated to tried blank f 0 known is.some (shut 0 (omega (arith, (blank f known).1)) is.some))
    | inr some ↦ (
        let back : (n - 1) + 1 ≡ n = omega (arith, some) in
        free (c (n - 1)) (chain.known (n - 1) (omega arith)) (chain.links (n - 1) (omega (arith, some)) ∙ ap (cell_of w) (ap c back ∙ chain.last_is)))
  ]

  pub stay_leads : (c : ℕ → ℕ) (n : ℕ) → IsChained w e to tried f c n → (to' : List ℕ) (next : Option ℕ) → Yields (robots w) to f (cell_of w f) to' next
      → Leads w e to' (slice_set tried f (w.each + 1)) next
  stay_leads c n chain to' None alone = absurd (stay_alone c n chain alone.0)
  stay_leads c n chain to' (Some p) held = record {
    done = λ none. absurd (cc none);
    going = λ q at_q.
        let same : p ≡ q = cc at_q in
        let it = stay_chain c n p chain held.0 held.1 in
        (c, it.0, rw held.2 (subst (λ (x : ℕ). IsChained w e (slice_set (slice_set to p undecided) f (cell_of w f)) (slice_set tried f (w.each + 1)) x c it.0) same it.1));
  }

-- a choice goes on
pub choose_leads : (w : Wishes) (standing : List ℕ) → AreSeated w standing → (e : ℕ) (other : List ℕ) → IsOther w e other
    → (to tried : List ℕ) (f : ℕ) → IsBoard w to tried (Some f) → Leads w e to tried (Some f)
    → (to' tried' : List ℕ) (next : Option ℕ) → Chooses w to tried f to' tried' next → Leads w e to' tried' next
choose_leads w standing seated e other is to tried f board leads to' tried' next chooses =
    let it = leads.going f refl in
    elim chooses [
      | reserves k r ↦ reserve_leads w standing seated e other is to tried f board it.0 it.1 it.2 k to' tried' next r
      | stays s ↦ rw s.tried_is (stay_leads w standing seated e other is to tried f board s.shut it.0 it.1 it.2 to' next s.next_is)
    ]
