-- What holds of each item of a list.
use Rattle.std.proofs.Common.{◌≡◌, ℕ, Bool, true, false, not, cond, List, [], ◌∷◌, ◌++◌, map, refl, sym, ◌∙◌, ap, subst, append_assoc, append-nil}
use Rattle.std.specs.List.{AllByRecursion, filter}

module _ {X : Type 0} where
  pub each_on : (P Q : X → Type 0) → ((x : X) → P x → Q x) → (xs : List X) → AllByRecursion P xs → AllByRecursion Q xs
  each_on P Q f [] h = tt
  each_on P Q f (x ∷ xs) h = (f x h.0, each_on P Q f xs h.1)

  pub each_after : (P : X → Type 0) (xs ys : List X) → AllByRecursion P xs → AllByRecursion P ys → AllByRecursion P (xs ++ ys)
  each_after P [] ys h k = k
  each_after P (x ∷ xs) ys h k = (h.0, each_after P xs ys h.1 k)

  one : (Q : X → Type 0) (b : Bool) (x : X) (xs : List X) → (b ≡ true → Q x) → AllByRecursion Q xs → AllByRecursion Q (cond b (x ∷ xs) xs)
  one Q true x xs f h = (f refl, h)
  one Q false x xs f h = h

  -- of those that pass the test
  pub each_kept : (p : X → Bool) (P Q : X → Type 0) → ((x : X) → p x ≡ true → P x → Q x) → (xs : List X) → AllByRecursion P xs → AllByRecursion Q (filter p xs)
  each_kept p P Q f [] h = tt
  each_kept p P Q f (x ∷ xs) h = one Q (p x) x (filter p xs) (λ is. f x is h.0) (each_kept p P Q f xs h.1)

pub each_made : {X Y : Type 0} (f : X → Y) (xs : List X) → AllByRecursion (λ (y : Y). (x : X) × (y ≡ f x)) (map f xs)
each_made f [] = tt
each_made f (x ∷ xs) = ((x, refl), each_made f xs)

pub not_false : (b : Bool) → not b ≡ true → b ≡ false
not_false true is = cc
not_false false is = refl

pub cond_by : {X : Type 0} (b : Bool) (x y : X) → b ≡ true → cond b x y ≡ x
cond_by true x y e = refl
cond_by false x y e = cc

pub cond_else : {X : Type 0} (b : Bool) (x y : X) → b ≡ false → cond b x y ≡ y
cond_else true x y e = cc
cond_else false x y e = refl

-- a list that is sorted item by item
pub kept_true : {X : Type 0} (p : X → Bool) (x : X) (xs ys zs all : List X) → p x ≡ true → all ≡ x ∷ xs → zs ≡ (ys ++ x ∷ []) ++ filter p xs → zs ≡ ys ++ filter p all
kept_true p x xs ys zs all is whole e = e ∙ (append_assoc ys (x ∷ []) (filter p xs) ∙ ap (λ (l : List _). ys ++ l) (sym (cond_by (p x) (x ∷ filter p xs) (filter p xs) is) ∙ ap (filter p) (sym whole)))

pub kept_false : {X : Type 0} (p : X → Bool) (x : X) (xs ys zs all : List X) → p x ≡ false → all ≡ x ∷ xs → zs ≡ ys ++ filter p xs → zs ≡ ys ++ filter p all
kept_false p x xs ys zs all is whole e = e ∙ ap (λ (l : List _). ys ++ l) (sym (cond_else (p x) (x ∷ filter p xs) (filter p xs) is) ∙ ap (filter p) (sym whole))
