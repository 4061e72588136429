-- One client after another.
use Rattle.std.proofs.lemmas.List.{length-map}
use Rattle.std.proofs.Common.{◌≡◌, ◌≢◌, ℕ, zero, suc, ◌+◌, ◌<◌, ◌≤◌, List, [], ◌∷◌, ◌++◌, length, set, take, drop, Some, refl, ap, sym, ◌∙◌, subst, arith, ⊎_elim, ◌⊎◌}
use Rattle.std.specs.Prelude.{slice_get}
use Rattle.std.proofs.Math.Seq.{map-set_same}
use Rattle.std.proofs.lemmas.Option.{get_or_from_slice_get, slice_get_within}
use Rattle.fleet_history.specs.History.{History}
use Rattle.fleet_core.specs.Core.{World}
use Rattle.fleet_lanes.specs.Names.{LaneName}
use Rattle.fleet_lanes.specs.Ends.{EndView, ClientView}
use Rattle.fleet_office.specs.Views.{OthersStay, IsSettled, ClientCore, core, cores, IsNumberSettled, KeepsOthers, AreDistinct, AreSettled, AreOn}
use Rattle.fleet_office.specs.Draining.{IsLeft, AreLeft, Drains, DrainsFirst}
use Rattle.fleet_office.proofs.Places.{at_set, at_map, map_at, there_is, within}

split : (a b : ℕ) → a < b + 1 → (a < b) ⊎ (a ≡ b)
split a b l = grind arith

take_front : {X : Type 0} (xs zs : List X) → take (length xs) (xs ++ zs) ≡ xs
take_front [] zs = refl
take_front (x ∷ xs) zs = ap (λ t. x ∷ t) (take_front xs zs)

module _ {A : Type 0} where
  -- those of the first n numbers are settled
  abbrev pub SettledBelow : ℕ → List (EndView A) → List (ClientView A) → Type 0
  SettledBelow n ends cs = (k : ℕ) (x : ClientView A) → x.number < n → slice_get cs k ≡ Some x → IsSettled ends x

  pub cores_set : (cs : List (ClientView A)) (k : ℕ) (c d : ClientView A) → slice_get cs k ≡ Some c → core d ≡ core c → cores (set cs k d) ≡ cores cs
  cores_set cs k c d at same = map-set_same core cs k d c (same ∙ ap core (sym (get_or_from_slice_get cs k c c at)))

  stays : (ends new : List (EndView A)) (c : ℕ) (x : ClientView A) → OthersStay c ends new → x.number ≢ c → IsSettled ends x → IsSettled new x
  stays ends new c x others apart s = record { taken = λ e at. s.taken e (others.each x.number e apart at); given = λ e at. s.given e (others.each x.number e apart at) }

  -- the client at place k has the number n
  pub number_settled : (new : List (EndView A)) (cs : List (ClientView A)) (n k : ℕ) (c d : ClientView A) → slice_get cs k ≡ Some c → c.number ≡ n → AreDistinct (cores cs) →
      IsSettled new d → (j : ℕ) (x : ClientView A) → slice_get (set cs k d) j ≡ Some x → x.number ≡ n → IsSettled new x
  number_settled new cs n k c d here is distinct settled j x at mine =
      ⊎_elim
      (λ (h : (j ≡ k) × (d ≡ x)). subst (IsSettled new) h.1 settled)
      (λ (h : (j ≢ k) × (slice_get cs j ≡ Some x)). absurd (h.0 (distinct j k (core x) (core c) (map_at core cs j x h.1) (map_at core cs k c here) (mine ∙ sym is))))
      (at_set cs k j d x at)

  pub keeps_others : (cs : List (ClientView A)) (n k : ℕ) (c d : ClientView A) → c.number ≡ n → core d ≡ core c → (j : ℕ) (x : ClientView A) → slice_get (set cs k d) j ≡ Some x → x.number ≢ n → slice_get cs j ≡ Some x
  keeps_others cs n k c d is same j x at apart =
      ⊎_elim
      (λ (h : (j ≡ k) × (d ≡ x)). absurd (apart (ap (λ y. y.number) (sym h.1) ∙ ap (λ y. y.number) same ∙ is)))
      (λ (h : (j ≢ k) × (slice_get cs j ≡ Some x)). h.1)
      (at_set cs k j d x at)

  pub settled_next : (ends new : List (EndView A)) (cs now : List (ClientView A)) (n : ℕ) → OthersStay n ends new → KeepsOthers n cs now → IsNumberSettled n new now → SettledBelow n ends cs → SettledBelow (n + 1) new now
  settled_next ends new cs now n others kept mine below j x less at =
      ⊎_elim
      (λ (h : x.number < n).
      let apart : x.number ≢ n = λ s. omega (arith, s) in
      stays ends new n x others apart (below j x h (kept j x at apart)))
      (λ (h : x.number ≡ n). mine j x at h)
      (split x.number n less)

  pub settled_all : (rings : List (LaneName A)) (ends : List (EndView A)) (cs was : List (ClientView A)) (n : ℕ) → length rings ≤ n → cores cs ≡ cores was → AreOn rings (cores was) → SettledBelow n ends cs → AreSettled ends cs
  settled_all rings ends cs was n done same on below k x at =
      let ring = on k (core x) (sym (ap (λ y. slice_get y k) same) ∙ map_at core cs k x at) in
      below k x (omega (arith, slice_get_within rings x.number x.lane ring)) at

  -- the hall ends of the numbers from n on are as they were
  pub record StayFrom (n : ℕ) (old new : List (EndView A)) : Type 0 where
    pub count : length new ≡ length old
    pub each : (k : ℕ) (e : EndView A) → n ≤ k → slice_get old k ≡ Some e → slice_get new k ≡ Some e

  pub stay_all : (ends : List (EndView A)) → StayFrom 0 ends ends
  stay_all ends = record { count = refl; each = λ k e more at. at }

  -- the end of number n changed
  pub stay_next : (n : ℕ) (old mid new : List (EndView A)) → StayFrom n old mid → OthersStay n mid new → StayFrom (n + 1) old new
  stay_next n old mid new stay others = record {
    count = others.count ∙ stay.count;
    each = λ k e more at.
        let was = stay.each k e (omega (arith, more)) at in
        let d = there_is new k (omega (arith, within mid k e was, others.count)) in
        let same : slice_get mid k ≡ Some d.0 = others.each k d.0 (λ s. omega (arith, s, more)) d.1 in
        let both : Some e ≡ Some d.0 = sym was ∙ same in
        let own : e ≡ d.0 = cc in
        d.1 ∙ ap Some (sym own);
  }

  -- ---- the orders that are left

  -- those of the client at place k are those of its number
  pub left_number : (ends : List (EndView A)) (cs : List (ClientView A)) (number k n : ℕ) (x : ClientView A) → slice_get cs k ≡ Some x → x.number ≡ number → AreDistinct (cores cs) →
      IsLeft ends (core x) n → AreLeft ends (cores cs) number n
  left_number ends cs number k n x here is distinct left j y at same =
      let there = map_at core cs k x here in
      let jk : j ≡ k = distinct j k y (core x) at there (same ∙ sym is) in
      let both : Some (core x) ≡ Some y = sym there ∙ ap (slice_get (cores cs)) (sym jk) ∙ at in
      let own : core x ≡ y = cc in
      subst (λ (z : ClientCore A). IsLeft ends z n) own left

  -- none are, where nobody has the number
  pub left_none : (ends : List (EndView A)) (cs : List (ClientView A)) (number n : ℕ) → ((k : ℕ) (x : ClientView A) → slice_get cs k ≡ Some x → x.number ≢ number) → AreLeft ends (cores cs) number n
  left_none ends cs number n nobody j y at same =
      let x = at_map core cs j y at in
      absurd (nobody j x.0 x.1 (ap (λ (z : ClientCore A). z.number) x.2 ∙ same))

  -- those of a lane whose hall end is as it was
  pub left_before : (old now : List (EndView A)) (cs : List (ClientCore A)) (c n : ℕ) → StayFrom c old now → AreLeft now cs c n → AreLeft old cs c n
  left_before old now cs c n stay left k x at same e there = left k x at same e (stay.each x.number e (omega (arith, same)) there)

  pub first_more : (ends : List (EndView A)) (cs : List (ClientCore A)) (w v u : World A) (k n : ℕ) → AreLeft ends cs k n → DrainsFirst k ends cs w v → (d : Drains v k n u) → length d.more ≡ n →
      DrainsFirst (k + 1) ends cs w u
  first_more ends cs w v u k n left before last all =
      let e : suc k ≡ k + 1 = omega arith in
      let done : DrainsFirst (suc k) ends cs w u = (v, n, left, before, (last, all)) in
      subst (λ m. DrainsFirst m ends cs w u) e done

  -- no more than histories and mailboxes change
  pub first_frame : (k : ℕ) (ends : List (EndView A)) (cs : List (ClientCore A)) (w v : World A) → DrainsFirst k ends cs w v → (v.floor ≡ w.floor) × (v.ties ≡ w.ties) × (v.number ≡ w.number) × (v.turns ≡ w.turns)
  first_frame zero ends cs w v same = (ap (λ x. x.floor) same, ap (λ x. x.ties) same, ap (λ x. x.number) same, ap (λ x. x.turns) same)
  first_frame (suc k) ends cs w v d =
      let b = first_frame k ends cs w d.0 d.3 in
      (d.4.0.floor ∙ b.0, d.4.0.ties ∙ b.1, d.4.0.number ∙ b.2, d.4.0.turns ∙ b.3)

  pub first_opening : (k : ℕ) (ends : List (EndView A)) (cs : List (ClientCore A)) (w v : World A) → DrainsFirst k ends cs w v → v.history.opening ≡ w.history.opening
  first_opening zero ends cs w v same = ap (λ x. x.history.opening) same
  first_opening (suc k) ends cs w v d = ap (λ (h : History A). h.opening) d.4.0.history ∙ first_opening k ends cs w d.0 d.3

  -- clients lent as a slice come back
  pub lent_back : (xs ys : List (ClientView A)) (n : ℕ) → n ≡ length ys → cores xs ≡ cores ys → take n (xs ++ drop (length xs) ys) ≡ xs
  lent_back xs ys n is same =
      let l : length (cores xs) ≡ length (cores ys) = ap length same in
      let k : length xs ≡ length ys = simp length-map at l in
      subst (λ m. take m (xs ++ drop (length xs) ys) ≡ xs) (k ∙ sym is) (take_front xs (drop (length xs) ys))
