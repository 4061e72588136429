-- A board with one reservation more.
use Rattle.std.proofs.Common.{◌≡◌, ◌≢◌, ℕ, ◌<◌, ◌⊎◌, inl, inr, Option, Some, None, sym, subst, refl, ap}
use Rattle.std.proofs.lemmas.Bool.{cases_eq}
use Rattle.fleet_pibt.specs.inside.Plan.{Vacant, Pulled, Tidy, Edge, Written, Distinct, Takes}
use Rattle.fleet_pibt.specs.inside.Plan.Pulled.{nearer, taken}

pub none_or_some : (o : Option ℕ) → (o ≡ None) ⊎ ((x : ℕ) × (o ≡ Some x))
none_or_some None = inl refl
none_or_some (Some x) = inr (x, refl)

-- what pulls a robot pulls it in each table that keeps every target
pub Pulled-keep : {from : ℕ → ℕ} {cost : ℕ → ℕ → ℕ} {t u : ℕ → Option ℕ} {r : ℕ} → ((r c : ℕ) → t r ≡ Some c → u r ≡ Some c) → Pulled from cost t r → Pulled from cost u r
Pulled-keep k (nearer r c e h) = nearer r c (k r c e) h
Pulled-keep k (taken r j e ne p) = taken r j (k j _ e) ne (Pulled-keep k p)

module _ (Near : ℕ → ℕ → Type 0) (n : ℕ) (from : ℕ → ℕ) (cost : ℕ → ℕ → ℕ) (distinct : Distinct n from) (t h : ℕ → Option ℕ) (i v : ℕ) (t' h' : ℕ → Option ℕ)
    (tidy : Tidy Near n from cost t h) (takes : Takes Near n from cost t h i v) (wt : Written t i (Some v) t') (wh : Written h v (Some i) h') where
  pub reserve-keep : (r c : ℕ) → t r ≡ Some c → t' r ≡ Some c
  reserve-keep r c e =
      let ne : r ≢ i = λ (q : r ≡ i). cc (takes.idle, ap t q) in
      cc (wt.off r ne)

  pub reserve-old : (r c : ℕ) → r ≢ i → t' r ≡ Some c → t r ≡ Some c
  reserve-old r c ne e = cc (wt.off r ne)

  pub reserve-more : (w : ℕ) → h w ≢ None → h' w ≢ None
  reserve-more w ne = elim (cases_eq w v) [ inl q ↦ (λ e. cc (wh.at, ap h' q)) | inr q ↦ (λ e. ne (cc (wh.off w q))) ]

  reserve-held : (r c : ℕ) → t' r ≡ Some c → h' c ≡ Some r
  reserve-held r c e = elim (cases_eq r i) [
    | inl q ↦ (let a : c ≡ v = cc (wt.at, ap t' q) in cc (wh.at, ap h' a))
    | inr q ↦ (
        let b : h c ≡ Some r = tidy.held r c (reserve-old r c q e) in
        let ne : c ≢ v = λ (p : c ≡ v). cc (takes.free, ap h p) in
        cc (wh.off c ne))
  ]

  reserve-kept : (c r : ℕ) → h' c ≡ Some r → t' r ≡ Some c
  reserve-kept c r e = elim (cases_eq c v) [
    | inl q ↦ (let a : r ≡ i = cc (wh.at, ap h' q) in cc (wt.at, ap t' a))
    | inr q ↦ reserve-keep r c (tidy.kept c r (cc (wh.off c q)))
  ]

  reserve-real : (r c : ℕ) → t' r ≡ Some c → r < n
  reserve-real r c e = elim (cases_eq r i) [
    | inl q ↦ subst (λ (x : ℕ). x < n) (sym q) takes.small
    | inr q ↦ tidy.real r c (reserve-old r c q e)
  ]

  reserve-legal : (r c : ℕ) → t' r ≡ Some c → (c ≡ from r) ⊎ Near (from r) c
  reserve-legal r c e = elim (cases_eq r i) [
    | inl q ↦ (
        let a : v ≡ c = cc (wt.at, ap t' q) in
        subst (λ (x : ℕ). (c ≡ from x) ⊎ Near (from x) c) (sym q) (subst (λ (y : ℕ). (y ≡ from i) ⊎ Near (from i) y) a takes.lawful))
    | inr q ↦ tidy.legal r c (reserve-old r c q e)
  ]

  reserve-swapless : (r s : ℕ) → t' r ≡ Some (from s) → t' s ≡ Some (from r) → r ≡ s
  reserve-swapless r s e f = elim (cases_eq r i) [
    | inl q ↦ elim (cases_eq s i) [
      | inl p ↦ (cc)
      | inr p ↦ absurd (takes.clear s (cc (reserve-old s _ p f, ap from q)) (cc (wt.at, ap t' q)))
    ]
    | inr q ↦ elim (cases_eq s i) [
      | inl p ↦ absurd (takes.clear r (cc (reserve-old r _ q e, ap from p)) (cc (wt.at, ap t' p)))
      | inr p ↦ tidy.swapless r s (reserve-old r _ q e) (reserve-old s _ p f)
    ]
  ]

  reserve-keen : (r c w : ℕ) → t' r ≡ Some c → Near (from r) w → cost r w < cost r c → Vacant n from w → h' w ≢ None
  reserve-keen r c w e near less vacant = elim (cases_eq r i) [
    | inl q ↦ (
        let a : c ≡ v = cc (wt.at, ap t' q) in
        let near' : Near (from i) w = subst (λ (x : ℕ). Near (from x) w) q near in
        let less' : cost i w < cost i v = subst (λ (y : ℕ). cost i w < cost i y) a (subst (λ (x : ℕ). cost x w < cost x c) q less) in
        reserve-more w (takes.first w near' less' vacant))
    | inr q ↦ reserve-more w (tidy.keen r c w (reserve-old r c q e) near less vacant)
  ]

  reserve-pulled : (r c : ℕ) → t' r ≡ Some c → c ≢ from r → Pulled from cost t' r
  reserve-pulled r c e moves = elim (cases_eq r i) [
    | inl q ↦ (
        let a : v ≡ c = cc (wt.at, ap t' q) in
        let moves' : v ≢ from i = λ (p : v ≡ from i). moves (cc (ap from q)) in
        subst (λ (x : ℕ). Pulled from cost t' x) (sym q)
        (elim (takes.drawn moves') [
          | inl less ↦ nearer i v wt.at less
          | inr here ↦ elim (none_or_some (h (from i))) [
            | inl none ↦ absurd (here none)
            | inr some ↦ (
                let b : t some.0 ≡ Some (from i) = tidy.kept (from i) some.0 some.1 in
                let ne : some.0 ≢ i = λ (p : some.0 ≡ i). cc (takes.idle, ap t p) in
                let away : from i ≢ from some.0 = λ (p : from i ≡ from some.0). ne (distinct some.0 i (tidy.real _ _ b) takes.small (sym p)) in
                taken i some.0 (reserve-keep _ _ b) ne (Pulled-keep reserve-keep (tidy.pulled some.0 (from i) b away)))
          ]
        ]))
    | inr q ↦ Pulled-keep reserve-keep (tidy.pulled r c (reserve-old r c q e) moves)
  ]

  pub reserve-tidy : Tidy Near n from cost t' h'
  reserve-tidy = record {
    held = reserve-held;
    kept = reserve-kept;
    real = reserve-real;
    legal = reserve-legal;
    swapless = reserve-swapless;
    keen = reserve-keen;
    pulled = reserve-pulled;
  }

  pub reserve-edge : (x : ℕ) → Edge Near n from cost t h i → ((k : ℕ) → k < n → from k ≡ v → t' k ≡ None → k ≡ x) → Edge Near n from cost t' h' x
  reserve-edge x edge at c r k e small here none = elim (cases_eq c v) [
    | inl q ↦ at k small (cc) none
    | inr q ↦ (
        let a : h c ≡ Some r = cc (wh.off c q) in
        elim (cases_eq k i) [
          | inl p ↦ absurd (cc (wt.at, ap t' p))
          | inr p ↦ absurd (p (edge c r k a small here (cc (wt.off k p))))
        ])
  ]
