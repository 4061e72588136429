-- A table as the places of a list are entered.
use Rattle.std.proofs.Common.{◌≡◌, ◌≢◌, ℕ, zero, suc, ◌+◌, ◌<◌, ◌≤◌, ◌⊎◌, inl, inr, true, false, eqb, List, [], ◌∷◌, length, get_or, slice_index, slice_set, sym, ap, subst, ◌∙◌, arith, rules}
use Rattle.std.specs.List.{list_any}
use Rattle.std.proofs.lemmas.Bool.{cases_eq, cases_lt, ne_eqb}
use Rattle.std.proofs.lemmas.List.{get_or-set_same, get_or-set_other, get_or_default}
use Rattle.std.proofs.lemmas.Map.Keys.{IsDistinct-from_apart}
use Rattle.std.proofs.lemmas.Map.Steps.{length-le_from_distinct_below}
use Rattle.std.proofs.lemmas.Map.Views.{Contains-from_any}
use Rattle.fleet_shield.specs.Wishes.{AreApart, IsOrder}
use Rattle.fleet_shield.specs.Fault.{IsFirstTwice}
use Rattle.fleet_shield.specs.inside.Entered.{IsEntered}

-- the first places are entered
abbrev pub IsEnteredTo : List ℕ → List ℕ → ℕ → Type 0
IsEnteredTo xs table n = (k : ℕ) → k < n → slice_index table (slice_index xs k) ≡ k

pub entered_apart : (xs table : List ℕ) (n : ℕ) → IsEnteredTo xs table n → AreApart xs n
entered_apart xs table n entered i j less small e = omega (arith, less, entered i (omega (arith, less, small)), entered j small, ap (slice_index table) e)

pub entered_all : (xs table : List ℕ) (n : ℕ) → length xs ≤ n → IsEnteredTo xs table n → IsEntered xs table
entered_all xs table n all entered k known inside = entered k (omega (arith, all, known))

pub entered_twice : (xs table : List ℕ) (n before : ℕ) → IsEnteredTo xs table n → n < length xs → before < n → slice_index xs before ≡ slice_index xs n → IsFirstTwice xs before n
entered_twice xs table n before entered inside less same = record { order = less; inside = inside; same = same; before = entered_apart xs table n entered }

pub entered_more : (xs table : List ℕ) (n : ℕ) → slice_index xs n < length table
    → (slice_index table (slice_index xs n) < n → slice_index xs (slice_index table (slice_index xs n)) ≡ slice_index xs n → ⊥)
    → IsEnteredTo xs table n → IsEnteredTo xs (slice_set table (slice_index xs n) n) (n + 1)
entered_more xs table n inside fresh entered k small = elim (cases_eq k n) [
  | inl same ↦ ap (λ (x : ℕ). slice_index (slice_set table (slice_index xs n) n) (slice_index xs x)) same ∙ (get_or-set_same table (slice_index xs n) n 0 inside ∙ sym same)
  | inr ne ↦ (
      let less : k < n = omega (arith, small, ne) in
      get_or-set_other table (slice_index xs n) (slice_index xs k) n 0 (apart less) ∙ entered k less)
]
  where
    apart : k < n → slice_index xs k ≢ slice_index xs n
    apart less e =
        let at : slice_index table (slice_index xs n) ≡ k = ap (slice_index table) (sym e) ∙ entered k less in
        fresh (omega (arith, at, less)) (ap (slice_index xs) at ∙ e)

-- distinct numbers below a number are at most as many
few_below : (xs : List ℕ) (n : ℕ) → AreApart xs (length xs) → ((k : ℕ) → k < length xs → slice_index xs k < n) → length xs ≤ n
few_below xs n distinct below = length-le_from_distinct_below xs n (IsDistinct-from_apart eqb xs apart) within
  where
    apart : (i j d : ℕ) → i < j → j < length xs → eqb (get_or xs i d) (get_or xs j d) ≡ false
    apart i j d less inner = ne_eqb (get_or xs i d) (get_or xs j d) (λ e. distinct i j less inner
        (get_or_default xs i 0 d (omega (arith, less, inner)) ∙ (e ∙ get_or_default xs j d 0 inner)))

    within : (q : ℕ) → list_any (eqb q) xs ≡ true → q < n
    within q h =
        let at = Contains-from_any {eq = eqb} (λ x y e. eqb_true x y e) q xs h in
        let same : slice_index xs at.0 ≡ q = get_or_default xs at.0 0 q at.1 ∙ at.2 in
        subst (λ (c : ℕ). c < n) same (below at.0 at.1)
      where
        eqb_true : (x y : ℕ) → eqb x y ≡ true → x ≡ y
        eqb_true x y e = search (rules, e)

-- a number that is not in the list, before it
longer_apart : (r : ℕ) (xs : List ℕ) → ((j : ℕ) → j < length xs → slice_index xs j ≢ r) → AreApart xs (length xs) → AreApart (r ∷ xs) (suc (length xs))
longer_apart r xs none apart zero zero less small e = absurd (omega arith)
longer_apart r xs none apart zero (suc j) less small e = none j (omega arith) (sym e)
longer_apart r xs none apart (suc i) zero less small e = absurd (omega arith)
longer_apart r xs none apart (suc i) (suc j) less small e = apart i j (omega arith) (omega arith) e

longer_below : (r n : ℕ) (xs : List ℕ) → r < n → ((k : ℕ) → k < length xs → slice_index xs k < n) → (k : ℕ) → k < suc (length xs) → slice_index (r ∷ xs) k < n
longer_below r n xs known below zero small = known
longer_below r n xs known below (suc k) small = below k (omega arith)

find : (xs : List ℕ) (r n : ℕ) → ((j : ℕ) × (j < n) × (slice_index xs j ≡ r)) ⊎ ((j : ℕ) → j < n → slice_index xs j ≢ r)
find xs r zero = inr (λ j less e. omega (arith, less))
find xs r (suc n) = elim (find xs r n) [
  | inl it ↦ inl (it.0, omega (arith, it.1), it.2)
  | inr none ↦ elim (cases_eq (slice_index xs n) r) [
    | inl same ↦ inl (n, omega arith, same)
    | inr ne ↦ inr (λ j less e. elim (cases_eq j n) [
      | inl last ↦ ne (ap (slice_index xs) (sym last) ∙ e)
      | inr early ↦ none j (omega (arith, less, early)) e
    ])
  ]
]

-- the order names each robot
pub order_names : (order : List ℕ) (n r : ℕ) → IsOrder order n → r < n → (j : ℕ) × (j < length order) × (slice_index order j ≡ r)
order_names order n r is known = elim (find order r (length order)) [
  | inl it ↦ it
  | inr none ↦ absurd (
      let below : (k : ℕ) → k < length order → slice_index order k < n = λ k small. omega (arith, is.known k small, is.same_length) in
      let long = few_below (r ∷ order) n (longer_apart r order none is.apart) (longer_below r n order known below) in
      omega (arith, long, is.same_length))
]
