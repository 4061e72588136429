-- Boards on which robots were planned that all stay.
use Rattle.std.proofs.Common.{◌≡◌, ℕ, inl, inr, Option, Some, None}
use Rattle.fleet_pibt.specs.inside.Plan.{Tidy, Edge, Shut, Grown}
use Rattle.fleet_pibt.proofs.Reserve.{none_or_some}

module _ (Near : ℕ → ℕ → Type 0) (n : ℕ) (from : ℕ → ℕ) (cost : ℕ → ℕ → ℕ) (i : ℕ) (t h : ℕ → Option ℕ) where
  pub Grown-refl : Tidy Near n from cost t h → Edge Near n from cost t h i → t i ≡ None → Grown Near n from cost i t h t h
  Grown-refl tidy edge idle = record {
    keep = λ r c e. e;
    stay = λ r c e f. absurd (cc (e, f));
    shut = λ r c w e f near free. absurd (cc (e, f));
    idle = idle;
    tidy = tidy;
    edge = edge;
  }

module _ (Near : ℕ → ℕ → Type 0) (n : ℕ) (from : ℕ → ℕ) (cost : ℕ → ℕ → ℕ) (i : ℕ) (t h t' h' t'' h'' : ℕ → Option ℕ)
    (a : Grown Near n from cost i t h t' h') (b : Grown Near n from cost i t' h' t'' h'') where
  pub Grown-free : (w : ℕ) → h'' w ≡ None → h' w ≡ None
  Grown-free w free = elim (none_or_some (h' w)) [
    | inl none ↦ none
    | inr some ↦ absurd (cc (b.tidy.held some.0 w (b.keep some.0 w (a.tidy.kept w some.0 some.1))))
  ]

  Grown-stay : (r c : ℕ) → t r ≡ None → t'' r ≡ Some c → c ≡ from r
  Grown-stay r c e f = elim (none_or_some (t' r)) [
    | inl none ↦ b.stay r c none f
    | inr some ↦ (
        let same : some.0 ≡ c = cc (b.keep r some.0 some.1) in
        cc (a.stay r some.0 e some.1))
  ]

  Grown-shut : (r c w : ℕ) → t r ≡ None → t'' r ≡ Some c → Near (from r) w → h'' w ≡ None → w ≡ from i
  Grown-shut r c w e f near free = elim (none_or_some (t' r)) [
    | inl none ↦ b.shut r c w none f near free
    | inr some ↦ a.shut r some.0 w e some.1 near (Grown-free w free)
  ]

  pub Grown-trans : Grown Near n from cost i t h t'' h''
  Grown-trans = record {
    keep = λ r c e. b.keep r c (a.keep r c e);
    stay = Grown-stay;
    shut = Grown-shut;
    idle = b.idle;
    tidy = b.tidy;
    edge = b.edge;
  }

  pub Shut-keep : (w : ℕ) → Shut Near n from cost t' h' i w → Shut Near n from cost t'' h'' i w
  Shut-keep w shut free = let j = shut (Grown-free w free) in (j.0, b.keep _ _ j.1, j.2)
