-- A pair of ends more.
use Rattle.std.proofs.Common.{◌≡◌, List, [], ◌∷◌, ◌++◌, length, Some, arith, ⊎_elim, subst, sym, length-append}
use Rattle.std.specs.List.{slice_get}
use Rattle.fleet_book.specs.declared.limits.Limits.{Limits}
use Rattle.fleet_lanes.specs.Ends.{EndView, ClientView}
use Rattle.fleet_office.specs.Views.{ArePairs, AreNew}
use Rattle.fleet_office.proofs.Places.{at_push, within}

module _ {A : Type 0} (limits : Limits) where
  pub pairs-push : (cs : List (ClientView A)) (es : List (EndView A)) (c : ClientView A) (e : EndView A) → ArePairs cs es limits → AreNew c e (length cs) limits → ArePairs (cs ++ c ∷ []) (es ++ e ∷ []) limits
  pairs-push cs es c e p born = record {
    count = simp length-append (omega (arith, p.count));
    each = λ k c' e' at there.
        ⊎_elim
        (λ (old : slice_get cs k ≡ Some c').
        ⊎_elim
        (λ (was : slice_get es k ≡ Some e'). p.each k c' e' old was)
        (λ (new : (k ≡ length es) × (e ≡ e')). absurd (omega (arith, within cs k c' old, new.0, p.count)))
        (at_push es e e' k there))
        (λ (new : (k ≡ length cs) × (c ≡ c')).
        ⊎_elim
        (λ (was : slice_get es k ≡ Some e'). absurd (omega (arith, within es k e' was, new.0, p.count)))
        (λ (also : (k ≡ length es) × (e ≡ e')). subst (λ n. AreNew c' e' n limits) (sym new.0) (subst (λ x. AreNew x e' (length cs) limits) new.1 (subst (λ x. AreNew c x (length cs) limits) also.1 born)))
        (at_push es e e' k there))
        (at_push cs c c' k at);
  }
