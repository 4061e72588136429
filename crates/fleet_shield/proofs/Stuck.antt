-- A robot that the first one pushed, and that can go nowhere: no step without conflicts lets the first one in.
use Rattle.std.proofs.Common.{◌≡◌, ◌≢◌, ℕ, ◌+◌, ◌<◌, ◌≤◌, ◌⊎◌, inl, inr, List, slice_index, Some, sym, ap, subst, refl, ◌∙◌, arith}
use Rattle.std.proofs.lemmas.Bool.{cases_eq, cases_lt}
use Rattle.fleet_shield.specs.Wishes.{Wishes, robots, cell_of, preference}
use Rattle.fleet_shield.specs.inside.Board.{undecided, AreSeated, IsShut, WasBarred, IsBoard}
use Rattle.fleet_shield.specs.inside.Board.IsShut.{held, meets}
use Rattle.fleet_shield.specs.inside.Board.WasBarred.{taken, swaps, pushed}
use Rattle.fleet_shield.specs.inside.First.{IsOther}
use Rattle.fleet_shield.proofs.Seated.{cell_decided, preference_decided}
use Rattle.fleet_shield.proofs.Closure.{closed}

-- `e` has reserved the cell of `f`, which can take none of its preferences; each other robot that has decided stays
module _ (w : Wishes) (standing : List ℕ) (seated : AreSeated w standing) (to tried : List ℕ) (e f : ℕ) (board : IsBoard w to tried (Some f))
    (known_e : e < robots w) (apart : e ≢ f) (there : slice_index to e ≡ cell_of w f) (wants : slice_index to e ≡ preference w e 0) (once : slice_index tried e ≡ 1)
    (rest : (r : ℕ) → r < robots w → slice_index to r ≢ undecided → (w.each < slice_index tried r) ⊎ (r ≡ e))
    (touched : (r : ℕ) → r < robots w → 0 < slice_index tried r → (slice_index to r ≢ undecided) ⊎ (r ≡ f))
    (shut : (j : ℕ) → slice_index tried f ≤ j → j < w.each → IsShut w to f (preference w f j))
    (other : List ℕ) (is : IsOther w e other) where
  known_f : f < robots w
  known_f = (board.idle f refl).0

  idle : slice_index to f ≡ undecided
  idle = (board.idle f refl).1

  Stuck : ℕ → Type 0
  Stuck r = (r < robots w) × ((r ≡ f) ⊎ (w.each < slice_index tried r))

  -- the cell of such a robot
  IsClosed : ℕ → Type 0
  IsClosed d = (k : ℕ) × Stuck k × (d ≡ cell_of w k)

  stuck_f : Stuck f
  unfolding Stuck
  stuck_f = (known_f, inl refl)

  stuck_failed : (r : ℕ) → r < robots w → w.each < slice_index tried r → Stuck r
  unfolding Stuck
  stuck_failed r known failed = (known, inr failed)

  closed_at : (k d : ℕ) → Stuck k → d ≡ cell_of w k → IsClosed d
  unfolding IsClosed
  closed_at k d stuck at = (k, stuck, at)

  holder_closed : (q d : ℕ) → q < robots w → slice_index to q ≡ d → d ≢ undecided → IsClosed d
  holder_closed q d known at some = elim (rest q known (λ u. some (sym at ∙ u))) [
    | inl failed ↦ closed_at q d (stuck_failed q known failed) (sym at ∙ board.spent q known failed)
    | inr first ↦ closed_at f d stuck_f (sym at ∙ (ap (slice_index to) first ∙ there))
  ]

  comes : (r q d : ℕ) → r < robots w → Stuck r → q < robots w → cell_of w q ≡ d → slice_index to q ≡ cell_of w r → IsClosed d ⊎ ((r ≡ f) × (d ≡ cell_of w e))
  comes r q d known_r stuck known here at = elim (rest q known (λ u. cell_decided w standing seated r known_r (sym at ∙ u))) [
    | inl failed ↦ inl (closed_at r d stuck (sym here ∙ (sym (board.spent q known failed) ∙ at)))
    | inr first ↦ inr (
      seated.distinct r f known_r known_f (sym at ∙ (ap (slice_index to) first ∙ there)),
      sym here ∙ ap (cell_of w) first,
    )
  ]

  barred_closed : (r d : ℕ) → r < robots w → Stuck r → d ≢ undecided → WasBarred w to tried r d → IsClosed d ⊎ ((r ≡ f) × (d ≡ cell_of w e))
  barred_closed r d known stuck some was = elim was [
    | taken q kq at ↦ inl (holder_closed q d kq at some)
    | swaps q kq here at ↦ comes r q d known stuck kq here at
    | pushed q j kq here less within wish stays ↦ elim (touched q kq (omega (arith, less))) [
      | inr top ↦ inl (closed_at f d stuck_f (sym here ∙ ap (cell_of w) top))
      | inl decided ↦ elim (rest q kq decided) [
        | inl failed ↦ inl (closed_at q d (stuck_failed q kq failed) (sym here))
        | inr first ↦ (
            let zero_j : j ≡ 0 = omega (arith, less, ap (slice_index tried) first, once) in
            let same : cell_of w r ≡ cell_of w f =
            sym wish ∙ (ap (λ (x : ℕ). preference w x j) first ∙ (ap (preference w e) zero_j ∙ (sym wants ∙ there))) in
            let rf : r ≡ f = seated.distinct r f known known_f same in
            absurd (cell_decided w standing seated r known (sym stays ∙ (ap (slice_index to) rf ∙ idle))))
      ]
    ]
  ]

  shut_closed : (d : ℕ) → d ≢ undecided → IsShut w to f d → IsClosed d ⊎ ((f ≡ f) × (d ≡ cell_of w e))
  shut_closed d some is_shut = elim is_shut [
    | held q kq at ↦ inl (holder_closed q d kq at some)
    | meets q kq here at ↦ comes f q d known_f stuck_f kq here at
  ]

  wish_closed : (r j : ℕ) → Stuck r → j < w.each → IsClosed (preference w r j) ⊎ ((r ≡ f) × (preference w r j ≡ cell_of w e))
  unfolding Stuck
  wish_closed r j stuck within =
      let some = preference_decided w standing seated r j stuck.0 within in
      elim (cases_lt j (slice_index tried r)) [
        | inl before ↦ elim (cases_eq (slice_index to r) (preference w r j)) [
          | inl same ↦ inl (holder_closed r (preference w r j) stuck.0 same some)
          | inr ne ↦ barred_closed r (preference w r j) stuck.0 stuck some (board.barred r j stuck.0 before within ne)
        ]
        | inr now ↦ elim stuck.1 [
          | inr failed ↦ absurd (omega (arith, failed, now, within))
          | inl rf ↦ subst (λ (x : ℕ). IsClosed (preference w x j) ⊎ ((x ≡ f) × (preference w x j ≡ cell_of w e))) (sym rf)
              (shut_closed (preference w f j) (preference_decided w standing seated f j known_f within) (shut j (omega (arith, now, ap (slice_index tried) rf)) within))
        ]
      ]

  goes : (r : ℕ) → Stuck r → (k : ℕ) × Stuck k × (slice_index other r ≡ cell_of w k)
  unfolding Stuck IsClosed
  goes r stuck = elim (is.keeps r stuck.0) [
    | inl stays ↦ (r, stuck, stays)
    | inr wish ↦ elim (wish_closed r wish.0 stuck wish.1) [
      | inl at ↦ (at.0, at.1, sym wish.2 ∙ at.2)
      | inr swap ↦ absurd (
          let re : r ≡ e = is.swapless r e stuck.0 known_e (sym wish.2 ∙ swap.1) (is.first ∙ (sym wants ∙ (there ∙ ap (cell_of w) (sym swap.0)))) in
          apart (sym re ∙ swap.0))
    ]
  ]

  not_first : Stuck e → ⊥
  unfolding Stuck
  not_first stuck = elim stuck.1 [
    | inl ef ↦ apart ef
    | inr failed ↦ omega (arith, failed, once, is.some)
  ]

  stuck_known : (r : ℕ) → Stuck r → r < robots w
  unfolding Stuck
  stuck_known r stuck = stuck.0

  pub stuck_never : ⊥
  stuck_never = closed w other e f Stuck is.apart stuck_known goes seated.distinct known_e not_first (is.first ∙ (sym wants ∙ there)) stuck_f
