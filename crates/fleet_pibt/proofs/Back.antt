-- A board on which a reservation was handed back.
use Rattle.std.proofs.Common.{◌≡◌, ◌≢◌, ℕ, ◌<◌, ◌⊎◌, inl, inr, Option, Some, None, sym, subst, ap}
use Rattle.std.proofs.lemmas.Bool.{cases_eq}
use Rattle.fleet_pibt.specs.inside.Plan.{Vacant, Pulled, Tidy, Edge, Grown, Failed, Written, Distinct}
use Rattle.fleet_pibt.proofs.Reserve.{none_or_some, Pulled-keep}

-- `i` reserved the cell of `k` (t1, h1), the plan of `k` failed (t2, h2), and `k` now stays (t3, h3)
module _ (Near : ℕ → ℕ → Type 0) (n : ℕ) (from : ℕ → ℕ) (cost : ℕ → ℕ → ℕ) (distinct : Distinct n from) (t h : ℕ → Option ℕ) (i k : ℕ) (t1 h1 t2 h2 tm t3 h3 : ℕ → Option ℕ)
    (tidy : Tidy Near n from cost t h) (idle : t i ≡ None) (small : k < n)
    (wt1 : Written t i (Some (from k)) t1)
    (failed : Failed Near n from cost k t1 h1 t2 h2)
    (wtm : Written t2 i None tm) (wt3 : Written tm k (Some (from k)) t3) (wh3 : Written h2 (from k) (Some k) h3) where
  back-i : t2 i ≡ Some (from k)
  back-i = failed.grown.keep i (from k) wt1.at

  back-ne : i ≢ k
  back-ne = λ (p : i ≡ k). cc (back-i, failed.grown.idle, ap t2 p)

  back-same : (r : ℕ) → r ≢ i → r ≢ k → t3 r ≡ t2 r
  back-same r ni nk = cc (wtm.off r ni, wt3.off r nk)

  back-idle : t3 i ≡ None
  back-idle = cc (wtm.at, wt3.off i back-ne)

  back-not_i : (r c : ℕ) → t3 r ≡ Some c → r ≢ i
  back-not_i r c e = λ (p : r ≡ i). cc (back-idle, ap t3 p)

  back-old : (r c : ℕ) → r ≢ k → t3 r ≡ Some c → t2 r ≡ Some c
  back-old r c nk e = cc (back-same r (back-not_i r c e) nk)

  back-keep : (r c : ℕ) → t r ≡ Some c → t3 r ≡ Some c
  back-keep r c e =
      let ni : r ≢ i = λ (p : r ≡ i). cc (idle, ap t p) in
      let b : t2 r ≡ Some c = failed.grown.keep r c (cc (wt1.off r ni)) in
      let nk : r ≢ k = λ (p : r ≡ k). cc (failed.grown.idle, ap t2 p) in
      cc (back-same r ni nk)

  back-stay : (r c : ℕ) → t r ≡ None → t3 r ≡ Some c → c ≡ from r
  back-stay r c none e = elim (cases_eq r k) [
    | inl q ↦ cc (wt3.at, ap t3 q, ap from q)
    | inr q ↦ failed.grown.stay r c (cc (wt1.off r (back-not_i r c e))) (back-old r c q e)
  ]

  back-free : (w : ℕ) → h3 w ≡ None → (w ≢ from k) × (h2 w ≡ None)
  back-free w e =
      let ne : w ≢ from k = λ (p : w ≡ from k). cc (wh3.at, ap h3 p) in
      (ne, cc (wh3.off w ne))

  back-shut : (r c w : ℕ) → t r ≡ None → t3 r ≡ Some c → Near (from r) w → h3 w ≡ None → w ≡ from i
  back-shut r c w none e near free = elim (cases_eq r k) [
    | inl q ↦ (
        let near' : Near (from k) w = subst (λ (x : ℕ). Near (from x) w) q near in
        let j = failed.around w near' (back-free w free).1 in
        let a : h2 (from k) ≡ Some j.0 = failed.grown.tidy.held _ _ j.1 in
        let b : h2 (from k) ≡ Some i = failed.grown.tidy.held _ _ back-i in
        let same : j.0 ≡ i = cc in
        cc (j.2, ap from same))
    | inr q ↦ absurd ((back-free w free).0 (failed.grown.shut r c w (cc (wt1.off r (back-not_i r c e))) (back-old r c q e) near (back-free w free).1))
  ]

  back-held : (r c : ℕ) → t3 r ≡ Some c → h3 c ≡ Some r
  back-held r c e = elim (cases_eq r k) [
    | inl q ↦ (let a : c ≡ from k = cc (wt3.at, ap t3 q) in cc (wh3.at, ap h3 a))
    | inr q ↦ (
        let a : h2 c ≡ Some r = failed.grown.tidy.held r c (back-old r c q e) in
        let b : h2 (from k) ≡ Some i = failed.grown.tidy.held _ _ back-i in
        let ne : c ≢ from k = λ (p : c ≡ from k). back-not_i r c e (cc (ap h2 p)) in
        cc (wh3.off c ne))
  ]

  back-kept : (c r : ℕ) → h3 c ≡ Some r → t3 r ≡ Some c
  back-kept c r e = elim (cases_eq c (from k)) [
    | inl q ↦ (let a : r ≡ k = cc (wh3.at, ap h3 q) in cc (wt3.at, ap t3 a))
    | inr q ↦ (
        let a : t2 r ≡ Some c = failed.grown.tidy.kept c r (cc (wh3.off c q)) in
        let ni : r ≢ i = λ (p : r ≡ i). q (cc (back-i, ap t2 p)) in
        let nk : r ≢ k = λ (p : r ≡ k). cc (failed.grown.idle, ap t2 p) in
        cc (back-same r ni nk))
  ]

  back-real : (r c : ℕ) → t3 r ≡ Some c → r < n
  back-real r c e = elim (cases_eq r k) [
    | inl q ↦ subst (λ (x : ℕ). x < n) (sym q) small
    | inr q ↦ failed.grown.tidy.real r c (back-old r c q e)
  ]

  back-legal : (r c : ℕ) → t3 r ≡ Some c → (c ≡ from r) ⊎ Near (from r) c
  back-legal r c e = elim (cases_eq r k) [
    | inl q ↦ inl (cc (wt3.at, ap t3 q, ap from q))
    | inr q ↦ failed.grown.tidy.legal r c (back-old r c q e)
  ]

  back-swapless : (r s : ℕ) → t3 r ≡ Some (from s) → t3 s ≡ Some (from r) → r ≡ s
  back-swapless r s e f = elim (cases_eq r k) [
    | inl q ↦ (distinct r s (back-real _ _ e) (back-real _ _ f) (cc (wt3.at, ap t3 q, ap from q)))
    | inr q ↦ elim (cases_eq s k) [
      | inl p ↦ (distinct r s (back-real _ _ e) (back-real _ _ f) (cc (wt3.at, ap t3 p, ap from p)))
      | inr p ↦ failed.grown.tidy.swapless r s (back-old r _ q e) (back-old s _ p f)
    ]
  ]

  back-keen : (r c w : ℕ) → t3 r ≡ Some c → Near (from r) w → cost r w < cost r c → Vacant n from w → h3 w ≢ None
  back-keen r c w e near less vacant free = elim (cases_eq r k) [
    | inl q ↦ (
        let near' : Near (from k) w = subst (λ (x : ℕ). Near (from x) w) q near in
        let j = failed.around w near' (back-free w free).1 in
        vacant j.0 (failed.grown.tidy.real _ _ j.1) j.2)
    | inr q ↦ failed.grown.tidy.keen r c w (back-old r c q e) near less vacant (back-free w free).1
  ]

  back-pulled : (r c : ℕ) → t3 r ≡ Some c → c ≢ from r → Pulled from cost t3 r
  back-pulled r c e moves = elim (none_or_some (t r)) [
    | inl none ↦ absurd (moves (back-stay r c none e))
    | inr some ↦ (
        let same : some.0 ≡ c = cc (back-keep r some.0 some.1) in
        Pulled-keep back-keep (tidy.pulled r some.0 some.1 (λ (p : some.0 ≡ from r). moves (cc))))
  ]

  back-edge : Edge Near n from cost t3 h3 i
  back-edge c r x e less here none =
      let nk : x ≢ k = λ (p : x ≡ k). cc (wt3.at, ap t3 p) in
      elim (cases_eq c (from k)) [
        | inl q ↦ absurd (nk (distinct x k less small (cc)))
        | inr q ↦ elim (cases_eq x i) [
          | inl p ↦ p
          | inr p ↦ absurd (nk (failed.grown.edge c r x (cc (wh3.off c q)) less here (cc (back-same x p nk))))
        ]
      ]

  pub back-grown : Grown Near n from cost i t h t3 h3
  back-grown = record {
    keep = back-keep;
    stay = back-stay;
    shut = back-shut;
    idle = back-idle;
    tidy = record { held = back-held; kept = back-kept; real = back-real; legal = back-legal; swapless = back-swapless; keen = back-keen; pulled = back-pulled };
    edge = back-edge;
  }
