-- Texts, one of which grows.
use Rattle.std.proofs.Common.{◌≡◌, ◌∙◌, ℕ, ◌+◌, ◌<◌, List, [], ◌∷◌, ◌++◌, length, map, replicate, Result, Ok, Err, refl, sym, ap, get_or, set}
use Rattle.std.specs.Prelude.{OnOk, if◌then◌else◌}
use Rattle.std.specs.Result.{is_ok}
use Rattle.std.proofs.lemmas.List.{get_or-map, map-append, map-set, replicate_more}

module _ {X : Type 0} (f : X → List ℕ) where
  pub grown-at : (xs : List X) (to : ℕ) (old new : X) (text : List ℕ) → to < length xs → old ≡ get_or xs to old → f new ≡ f old ++ text → map f (set xs to new) ≡ set (map f xs) to (get_or (map f xs) to [] ++ text)
  grown-at xs to old new text inside read grew =
      map-set f xs to new ∙ ap (set (map f xs) to) (grew ∙ ap (λ (l : List ℕ). l ++ text) (ap f read ∙ sym (get_or-map f xs to old [] inside)))

  pub emptied-at : (xs : List X) (to : ℕ) (new : X) → f new ≡ [] → map f (set xs to new) ≡ set (map f xs) to []
  emptied-at xs to new none = map-set f xs to new ∙ ap (set (map f xs) to) none

  pub length-at : (xs : List X) (to : ℕ) (old : X) → to < length xs → old ≡ get_or xs to old → length (f old) ≡ length (get_or (map f xs) to [])
  length-at xs to old inside read = ap length (ap f read ∙ sym (get_or-map f xs to old [] inside))

  pub empty-more : (xs ys : List X) (x : X) (n : ℕ) → map f xs ≡ replicate n [] → f x ≡ [] → ys ≡ xs ++ x ∷ [] → map f ys ≡ replicate (n + 1) []
  empty-more xs ys x n all none is =
      ap (map f) is ∙ (map-append f xs (x ∷ []) ∙ (ap (λ (l : List (List ℕ)). l ++ f x ∷ []) all ∙ (ap (λ (l : List ℕ). replicate n [] ++ l ∷ []) none ∙ replicate_more n [])))

-- what follows where all was added
pub if-said : {T E P : Type 0} (r : Result T E) (x a b : List ℕ) → x ≡ (if is_ok r then a else b) → (x ≡ a → P) → OnOk r P
if-said (Ok v) x a b is f = f is
if-said (Err e) x a b is f = tt
