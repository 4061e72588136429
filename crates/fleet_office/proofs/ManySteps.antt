-- What a take keeps.
use Rattle.std.proofs.Common.{◌≡◌, ℕ, suc, ◌+◌, List, [], ◌∷◌, ◌++◌, length, ap, refl, sym, ◌∙◌, arith, subst}
use Rattle.std.proofs.Math.ListN.{length-set}
use Rattle.std.proofs.lemmas.List.{length-map}
use Rattle.fleet_book.specs.declared.verdict.Verdict.{Verdict}
use Rattle.fleet_lanes.specs.Ends.{EndView}
use Rattle.fleet_office.specs.Hall.{HallView, TakesOrder, TakesMany, Looks, Lists, lists_of}

module _ {A : Type 0} where
  lists_length : (ends : List (EndView A)) → length (lists_of ends) ≡ length ends
  lists_length ends = simp length-map refl

  pub as_many-order : (h g : HallView A) (c : ℕ) (v : Verdict) → TakesOrder h c v g → length g.ends ≡ length h.ends
  as_many-order h g c v t =
      let l : Lists A = record { lane = t.end.lane; taken = t.end.taken ++ t.order ∷ []; given = t.end.given } in
      sym (lists_length g.ends) ∙ ap length t.lists ∙ length-set (lists_of h.ends) c l ∙ lists_length h.ends

  pub as_many-looks : (h g : HallView A) → Looks h g → length g.ends ≡ length h.ends
  as_many-looks h g l = sym (lists_length g.ends) ∙ ap length l.lists ∙ lists_length h.ends

  pub limits-order : (h g : HallView A) (c : ℕ) (v : Verdict) → TakesOrder h c v g → g.world.limits ≡ h.world.limits
  limits-order h g c v t = ap (λ w. w.limits) t.takes.world

  pub many-more : (n : ℕ) (h m g : HallView A) (c : ℕ) (v : Verdict) → TakesMany n h c m → TakesOrder m c v g → TakesMany (n + 1) h c g
  many-more n h m g c v before t =
      let e : suc n ≡ n + 1 = omega arith in
      let all : TakesMany (suc n) h c g = (m, v, before, t) in
      subst (λ k. TakesMany k h c g) e all
