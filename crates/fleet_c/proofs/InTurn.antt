-- Orders that are taken, and notices that are given, one after the other.
use Rattle.std.proofs.Common.{◌≡◌, ◌≢◌, ℕ, zero, suc, ◌+◌, ◌<◌, ◌≤◌, List, [], ◌∷◌, length, get_or, set, sym, refl, ◌∙◌, subst, arith, Some, None, get_or-set_same, get_or-set_other}
use Rattle.std.specs.Prelude.{Bool, slice_get, slice_index_or}
use Rattle.std.proofs.Math.Numerals.{add-one}
use Rattle.fleet_core.specs.Core.{World}
use Rattle.fleet_c.specs.Batches.{Requested, TookMany}
use Rattle.fleet_c.specs.declared.codes.TheConstants.{DONE}
use Rattle.fleet_c.specs.declared.judgement.Judgement.{Judgement}
use Rattle.fleet_c.specs.declared.request.Request.{Request}

-- the item at a place, and none past the end
pub item-at : {X : Type 0} (xs : List X) (k : ℕ) (d : X) → k < length xs → slice_get xs k ≡ Some (get_or xs k d)
item-at [] k d l = absurd (omega arith)
item-at (y ∷ ys) zero d l = refl
item-at (y ∷ ys) (suc k) d l = item-at ys k d (omega arith)

pub none-past : {X : Type 0} (xs : List X) (k : ℕ) → length xs ≤ k → slice_get xs k ≡ None
none-past [] k l = refl
none-past (y ∷ ys) zero l = absurd (omega arith)
none-past (y ∷ ys) (suc k) l = none-past ys k (omega arith)

some-is : {X : Type 0} (x y : X) → Some x ≡ Some y → x ≡ y
some-is x y e = cc

module _ {A : Type 0} (cells : List Bool) (w : World A) (requests : List Request) where
  -- what is taken says nothing of the judgements after it
  took-frame : (told told' : List Judgement) (k : ℕ) (n : World A) → ((j : ℕ) (d : Judgement) → j < k → slice_index_or told' j d ≡ slice_index_or told j d)
      → TookMany cells w requests told k n → TookMany cells w requests told' k n
  took-frame told told' zero n same t = t
  took-frame told told' (suc k) n same (mid, before, each) =
      (mid, took-frame told told' k mid (λ j d l. same j d (omega arith)) before, λ r d e. subst (λ j. Requested cells mid r DONE j n) (sym (same k d (omega arith))) (each r d e))

  took-one : (n next : World A) (told : List Judgement) (k : ℕ) (r : Request) (judged : Judgement) → k < length told → slice_get requests k ≡ Some r
      → Requested cells n r DONE judged next → TookMany cells w requests told k n → TookMany cells w requests (set told k judged) (suc k) next
  took-one n next told k r judged l at did before = (
    n,
    took-frame told (set told k judged) k n (λ j d less. let ne : j ≢ k = omega arith in get_or-set_other told k j judged d ne) before,
    λ r' d at'. let same : r ≡ r' = some-is r r' (sym at ∙ at') in
        subst (λ j. Requested cells n r' DONE j next) (sym (get_or-set_same told k judged d l)) (subst (λ x. Requested cells n x DONE judged next) same did),
  )

  pub took-next : (n next : World A) (told : List Judgement) (k : ℕ) (r : Request) (judged : Judgement) → k < length told → k < length requests
      → Requested cells n (get_or requests k r) DONE judged next → TookMany cells w requests told k n → TookMany cells w requests (set told k judged) (k + 1) next
  took-next n next told k r judged l m did before = rw (add-one k) (took-one n next told k (get_or requests k r) judged l (item-at requests k r m) did before)

-- a place that is not written
pub rest-next : {X : Type 0} (now was : List X) (i : ℕ) (x : X) → ((k : ℕ) (d : X) → i ≤ k → slice_index_or now k d ≡ slice_index_or was k d)
    → (k : ℕ) (d : X) → i + 1 ≤ k → slice_index_or (set now i x) k d ≡ slice_index_or was k d
rest-next now was i x same k d l = let ne : k ≢ i = omega arith in get_or-set_other now i k x d ne ∙ same k d (omega arith)
