-- Clients that are on their office's rings, one more and one less.
use Rattle.std.proofs.Common.{◌≡◌, suc, ◌<◌, slice_index_or, List, [], ◌∷◌, ◌++◌, length, Some, sym, subst, refl, ap, ◌∙◌, arith, ⊎_elim}
use Rattle.std.specs.List.{slice_get, remove}
use Rattle.std.proofs.lemmas.List.{map-append, append_assoc, append-nil}
use Rattle.fleet_lanes.specs.Names.{LaneName}
use Rattle.fleet_lanes.specs.Ends.{ClientView}
use Rattle.fleet_office.specs.Views.{AreOn, ClientCore, core, cores}
use Rattle.fleet_office.proofs.Places.{at_push}

module _ {A : Type 0} (rings : List (LaneName A)) where
  -- the first of those left, and the others
  pub on_head : (xs ys : List (ClientView A)) (x : ClientView A) → xs ≡ x ∷ ys → AreOn rings (cores xs) → slice_get rings x.number ≡ Some x.lane
  on_head xs ys x is on = subst (λ zs. AreOn rings (cores zs)) is on 0 (core x) refl

  pub on_tail : (xs ys : List (ClientView A)) (x : ClientView A) → xs ≡ x ∷ ys → AreOn rings (cores xs) → AreOn rings (cores ys)
  on_tail xs ys x is on = λ k z at. subst (λ zs. AreOn rings (cores zs)) is on (suc k) z at

  pub on_first : (xs : List (ClientView A)) (x : ClientView A) → 0 < length xs → x ≡ slice_index_or xs 0 x → AreOn rings (cores xs) → slice_get rings x.number ≡ Some x.lane
  on_first [] x some is on = absurd (omega arith)
  on_first (y ∷ ys) x some is on = subst (λ (z : ClientView A). slice_get rings z.number ≡ Some z.lane) (sym is) (on 0 (core y) refl)

  pub on_rest : (xs : List (ClientView A)) → AreOn rings (cores xs) → AreOn rings (cores (remove xs 0))
  on_rest [] on = on
  on_rest (y ∷ ys) on = λ k x at. on (suc k) x at

  pub on_push : (xs : List (ClientView A)) (x : ClientView A) → AreOn rings (cores xs) → slice_get rings x.number ≡ Some x.lane → AreOn rings (cores (xs ++ x ∷ []))
  on_push xs x on here = λ k y at.
      ⊎_elim
      (λ (old : slice_get (cores xs) k ≡ Some y). on k y old)
      (λ (new : (k ≡ length (cores xs)) × (core x ≡ y)). subst (λ (z : ClientCore A). slice_get rings z.number ≡ Some z.lane) new.1 here)
      (at_push (cores xs) (core x) y k (subst (λ zs. slice_get zs k ≡ Some y) (map-append core xs (x ∷ [])) at))

module _ {X : Type 0} where
  -- the first of those left is moved after those moved: all of them are the same as before
  pub moves_on : (gs gs' xs ys all : List X) (x y : X) → xs ≡ x ∷ ys → y ≡ x → gs' ≡ gs ++ y ∷ [] → gs ++ xs ≡ all → gs' ++ ys ≡ all
  moves_on gs gs' xs ys all x y is seen items are =
      ap (λ zs. zs ++ ys) items ∙ append_assoc gs (y ∷ []) ys ∙ ap (λ z. gs ++ z ∷ ys) seen ∙ ap (λ zs. gs ++ zs) (sym is) ∙ are

  -- none is left: all were moved
  pub all_moved : (gs xs all : List X) → length xs ≡ 0 → gs ++ xs ≡ all → gs ≡ all
  all_moved gs [] all none are = sym (append-nil gs) ∙ are
  all_moved gs (y ∷ ys) all none are = absurd (omega arith)
