-- One end of the list changes.
use Rattle.std.proofs.Common.{◌≡◌, ◌≢◌, ℕ, ◌++◌, ◌∷◌, [], List, length, set, Some, refl, ap, sym, ◌∙◌, arith, ⊎_elim, append_assoc}
use Rattle.std.specs.Prelude.{OnOk, OnErr, Ok, Err, Result, slice_get}
use Rattle.std.proofs.Math.ListN.{length-set}
use Rattle.fleet_book.specs.declared.order.Order.{Order}
use Rattle.fleet_core.specs.Core.{World}
use Rattle.fleet_core.specs.declared.faults.TakeFault.{TakeFault}
use Rattle.fleet_lanes.specs.Names.{LaneName}
use Rattle.fleet_lanes.specs.Ends.{EndView}
use Rattle.fleet_office.specs.Hall.{IsLawful, took}
use Rattle.fleet_office.specs.Views.{OthersStay, Moves}
use Rattle.fleet_office.specs.Draining.{Widens, TakesNext}
use Rattle.fleet_office.proofs.Places.{at_set}
use Rattle.fleet_office.proofs.Laws.{lawful_same}
use Rattle.fleet_office.proofs.Widening.{lawful_wide, lawful_next}

module _ {A : Type 0} where
  one_of : (ends : List (EndView A)) (c : ℕ) (e x : EndView A) → slice_get ends c ≡ Some e → slice_get ends c ≡ Some x → e ≡ x
  one_of ends c e x at there = let both : Some e ≡ Some x = sym at ∙ there in cc

  pub others_set : (ends : List (EndView A)) (c : ℕ) (d : EndView A) → OthersStay c ends (set ends c d)
  others_set ends c d = record {
    count = length-set ends c d;
    each = λ k x apart at. ⊎_elim (λ (h : (k ≡ c) × (d ≡ x)). absurd (apart h.0)) (λ (h : (k ≢ c) × (slice_get ends k ≡ Some x)). h.1) (at_set ends c k d x at);
  }

  pub others_same : (ends : List (EndView A)) (c : ℕ) → OthersStay c ends ends
  others_same ends c = record { count = refl; each = λ k x apart at. at }

  pub is_set : (ends : List (EndView A)) (c : ℕ) (d x : EndView A) → slice_get (set ends c d) c ≡ Some x → d ≡ x
  is_set ends c d x at = ⊎_elim (λ (h : (c ≡ c) × (d ≡ x)). h.1) (λ (h : (c ≢ c) × (slice_get ends c ≡ Some x)). absurd (h.0 refl)) (at_set ends c c d x at)

  moves_set : (ends : List (EndView A)) (c : ℕ) (e d : EndView A) (o : Order) → slice_get ends c ≡ Some e → d ≡ took e o d.known → e.known ≡ o ∷ d.known → Moves c ends (set ends c d)
  moves_set ends c e d o at step known = record {
    others = others_set ends c d;
    lane = λ x y old new.
        let was = one_of ends c e x at old in
        let now = is_set ends c d y new in
        let l : d.taken ++ d.known ≡ e.taken ++ e.known = ap (λ z. z.taken ++ d.known) step ∙ append_assoc e.taken (o ∷ []) d.known ∙ ap (λ z. e.taken ++ z) (sym known) in
        sym (ap (λ z. z.taken ++ z.known) now) ∙ l ∙ ap (λ z. z.taken ++ z.known) was;
    fewer = λ x y old new.
        let was = ap (λ z. length z.known) (one_of ends c e x at old) in
        let now = ap (λ z. length z.known) (is_set ends c d y new) in
        let k = ap length known in
        omega arith;
    given = λ x y old new. sym (ap (λ z. z.given) (is_set ends c d y new)) ∙ ap (λ z. z.given) step ∙ ap (λ z. z.given) (one_of ends c e x at old);
  }

  -- what `take_left_from` ensures
  pub record TakenLeft (w v : World A) (e d : EndView A) (c n : ℕ) (r : Result (Unit {0}) TakeFault) : Type 0 where
    pub ok : OnOk r ((t : TakesNext w c n v) × (d ≡ took e t.order d.known) × (e.known ≡ t.order ∷ d.known))
    pub err : OnErr r (Widens w c n v × (d ≡ e))

  module _ (rings : List (LaneName A)) (began : World A) (w : World A) (ends : List (EndView A)) (t c n : ℕ) (e : EndView A) (at : slice_get ends c ≡ Some e) (v : World A) (d : EndView A) where
    pub kept_left : (r : Result (Unit {0}) TakeFault) → TakenLeft w v e d c n r → IsLawful rings began w ends t → IsLawful rings began v (set ends c d) t
    kept_left (Ok u) k h = lawful_next rings began w v ends t c n e d at k.ok.0 k.ok.1 h
    kept_left (Err f) k h =
        lawful_same rings began v ends t c e d at (ap (λ x. x.lane) k.err.1) (ap (λ x. x.taken) k.err.1) (ap (λ x. x.given) k.err.1) (lawful_wide rings began w v ends t c n k.err.0 h)

    pub moves_left : (r : Result (Unit {0}) TakeFault) → TakenLeft w v e d c n r → OnOk r (Moves c ends (set ends c d))
    moves_left (Ok u) k = moves_set ends c e d k.ok.0.order at k.ok.1 k.ok.2
    moves_left (Err f) k = tt

    pub next_left : (r : Result (Unit {0}) TakeFault) → TakenLeft w v e d c n r → OnOk r (TakesNext w c n v)
    next_left (Ok u) k = k.ok.0
    next_left (Err f) k = tt

    pub wide_left : (r : Result (Unit {0}) TakeFault) → TakenLeft w v e d c n r → OnErr r (Widens w c n v)
    wide_left (Ok u) k = tt
    wide_left (Err f) k = k.err.0

  pub stay_left : (ends : List (EndView A)) (c : ℕ) (d : EndView A) → OthersStay c ends (set ends c d)
  stay_left ends c d = others_set ends c d
