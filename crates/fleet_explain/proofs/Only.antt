-- An item of one list that is none of another.
use Rattle.std.proofs.Common.{◌≡◌, Bool, true, false, List, [], ◌∷◌, Option, Some, None, refl, ap, subst}
use Rattle.std.specs.Prelude.{map, ◌||◌, if◌then◌else◌, MatchOption}
use Rattle.std.specs.List.{list_any}
use Rattle.fleet_explain.specs.Only.{is_among, first_only, HasNoOther, IsOnlyIn}

pub any_map : {X Y : Type 0} (f : X → Y) (p : Y → Bool) (xs : List X) → list_any p (map f xs) ≡ list_any (λ x. p (f x)) xs
any_map f p [] = refl
any_map f p (x ∷ xs) = ap (λ (b : Bool). p (f x) || b) (any_map f p xs)

among_rest : (q : Bool) (rest : Bool) → rest ≡ true → (q || rest) ≡ true
among_rest true rest is = refl
among_rest false rest is = is

match_weaker : {X : Type 0} (o : Option X) (P R : Type 0) (Q S : X → Type 0) → (P → R) → ((x : X) → Q x → S x) → MatchOption o P Q → MatchOption o R S
match_weaker None P R Q S f g is = f is
match_weaker (Some x) P R Q S f g is = g x is

module _ {X : Type 0} (same : X → X → Bool) (own : (x : X) → same x x ≡ true) (one : (x y : X) → same x y ≡ true → x ≡ y) where
  only_first : (xs others : List X) (r x : X) → IsOnlyIn same xs others x → IsOnlyIn same (r ∷ xs) others x
  only_first xs others r x k = record { there = among_rest (same r x) (is_among same xs x) k.there; missing = k.missing }

  none_by : (xs others : List X) (r x : X) → is_among same others r ≡ true → HasNoOther same xs others → (b : Bool) → same r x ≡ b → (b || is_among same xs x) ≡ true → is_among same others x ≡ true
  none_by xs others r x is none true found all = subst (λ (y : X). is_among same others y ≡ true) (one r x found) is
  none_by xs others r x is none false found all = none x all

  only_step : (xs others : List X) (r : X) → MatchOption (first_only same xs others) (HasNoOther same xs others) (IsOnlyIn same xs others)
      → (b : Bool) → is_among same others r ≡ b → MatchOption (if b then first_only same xs others else Some r) (HasNoOther same (r ∷ xs) others) (IsOnlyIn same (r ∷ xs) others)
  only_step xs others r rest true found =
      match_weaker (first_only same xs others) (HasNoOther same xs others) (HasNoOther same (r ∷ xs) others) (IsOnlyIn same xs others) (IsOnlyIn same (r ∷ xs) others)
      (λ none. λ x there. none_by xs others r x found none (same r x) refl there) (λ x k. only_first xs others r x k) rest
  only_step xs others r rest false found = record { there = ap (λ (b : Bool). b || is_among same xs r) (own r); missing = found }

  pub only_read : (xs others : List X) → MatchOption (first_only same xs others) (HasNoOther same xs others) (IsOnlyIn same xs others)
  only_read [] others = λ r there. cc
  only_read (r ∷ xs) others = only_step xs others r (only_read xs others) (is_among same others r) refl
