-- Subsequences, and the orders up to a Close, with one more item at the end.
use Rattle.std.proofs.Common.{◌≡◌, ◌∙◌, ◌+◌, Bool, true, false, ◌||◌, List, [], ◌∷◌, ◌++◌, length, refl, sym, ap, arith}
use Rattle.std.specs.Prelude.{if◌then◌else◌}
use Rattle.std.proofs.lemmas.List.{length-append, append-nil}
use Rattle.fleet_book.specs.declared.order.Order.{Order}
use Rattle.fleet_lanes.specs.Ends.{is_close, has_close}
use Rattle.fleet_serve.specs.Posted.{kept, IsSubsequence, until_close}

module _ {X : Type 0} where
  kept-more : (keep : Bool) (keeps : List Bool) (xs : List X) (x : X) → length keeps ≡ length xs →
      kept (keeps ++ keep ∷ []) (xs ++ x ∷ []) ≡ kept keeps xs ++ (if keep then x ∷ [] else [])
  kept-more true [] [] x e = refl
  kept-more false [] [] x e = refl
  kept-more keep [] (y ∷ ys) x e = absurd (omega (arith, e))
  kept-more keep (k ∷ ks) [] x e = absurd (omega (arith, e))
  kept-more keep (true ∷ ks) (y ∷ ys) x e = ap (λ zs. y ∷ zs) (kept-more keep ks ys x (omega (arith, e)))
  kept-more keep (false ∷ ks) (y ∷ ys) x e = kept-more keep ks ys x (omega (arith, e))

  more-count : (keep : Bool) (keeps : List Bool) (xs : List X) (x : X) → length keeps ≡ length xs → length (keeps ++ keep ∷ []) ≡ length (xs ++ x ∷ [])
  more-count keep keeps xs x e = length-append keeps (keep ∷ []) ∙ ap (λ n. n + 1) e ∙ sym (length-append xs (x ∷ []))

  -- the new item is kept
  pub more-kept : (xs ys : List X) (x : X) → IsSubsequence xs ys → IsSubsequence (xs ++ x ∷ []) (ys ++ x ∷ [])
  more-kept xs ys x s = record {
    keeps = s.keeps ++ true ∷ [];
    count = more-count true s.keeps ys x s.count;
    same = kept-more true s.keeps ys x s.count ∙ ap (λ zs. zs ++ x ∷ []) s.same;
  }

  -- it is left out
  pub more-left : (xs ys : List X) (x : X) → IsSubsequence xs ys → IsSubsequence xs (ys ++ x ∷ [])
  more-left xs ys x s = record {
    keeps = s.keeps ++ false ∷ [];
    count = more-count false s.keeps ys x s.count;
    same = kept-more false s.keeps ys x s.count ∙ append-nil (kept s.keeps ys) ∙ s.same;
  }

  pub no-items : IsSubsequence {X = X} [] []
  no-items = record { keeps = []; count = refl; same = refl }

-- ---- up to a Close

closed-step : (b : Bool) (p o : Order) (ps : List Order) → (b || has_close (if b then [] else until_close ps)) ≡ true →
    (has_close (until_close ps) ≡ true → until_close (ps ++ o ∷ []) ≡ until_close ps) →
    p ∷ (if b then [] else until_close (ps ++ o ∷ [])) ≡ p ∷ (if b then [] else until_close ps)
closed-step true p o ps e before = refl
closed-step false p o ps e before = ap (λ zs. p ∷ zs) (before e)

-- after a Close nothing counts
pub until-closed : (ps : List Order) (o : Order) → has_close (until_close ps) ≡ true → until_close (ps ++ o ∷ []) ≡ until_close ps
until-closed [] o e = cc
until-closed (p ∷ ps) o e = closed-step (is_close p) p o ps e (until-closed ps o)

open-step : (b : Bool) (p o : Order) (ps : List Order) → (b || has_close (if b then [] else until_close ps)) ≡ false →
    (has_close (until_close ps) ≡ false → until_close (ps ++ o ∷ []) ≡ until_close ps ++ o ∷ []) →
    p ∷ (if b then [] else until_close (ps ++ o ∷ [])) ≡ (p ∷ (if b then [] else until_close ps)) ++ o ∷ []
open-step true p o ps e before = cc
open-step false p o ps e before = ap (λ zs. p ∷ zs) (before e)

first-step : (b : Bool) (o : Order) → o ∷ (if b then [] else []) ≡ o ∷ []
first-step true o = refl
first-step false o = refl

-- where none stands yet, one more order counts
pub until-open : (ps : List Order) (o : Order) → has_close (until_close ps) ≡ false → until_close (ps ++ o ∷ []) ≡ until_close ps ++ o ∷ []
until-open [] o e = first-step (is_close o) o
until-open (p ∷ ps) o e = open-step (is_close p) p o ps e (until-open ps o)
