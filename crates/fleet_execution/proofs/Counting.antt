-- How many numbers pass a test.
use Rattle.std.proofs.Common.{◌≡◌, ◌≢◌, ℕ, zero, suc, ◌+◌, ◌<◌, ◌≤◌, Bool, true, false, refl, ◌∙◌, ap, arith, cond, inl, inr}
use Rattle.std.proofs.lemmas.Bool.{cases_eq, cases_lt, cases_Bool}
use Rattle.fleet_execution.specs.Executes.{count_below}

if_one : (b : Bool) → cond b 1 0 ≤ 1
if_one true = omega arith
if_one false = omega arith

if_true : (b : Bool) → ◌≡◌ {A = ℕ} (cond b 1 0) 0 → b ≡ false
if_true true e = cc
if_true false e = refl

pub count_same : (n : ℕ) (p q : ℕ → Bool) → ((k : ℕ) → k < n → p k ≡ q k) → count_below n p ≡ count_below n q
count_same zero p q same = refl
count_same (suc n) p q same = rw (same n (omega arith)) (ap (λ (x : ℕ). cond (q n) 1 0 + x) (count_same n p q (λ k h. same k (omega arith))))

pub count_most : (n : ℕ) (p : ℕ → Bool) → count_below n p ≤ n
count_most zero p = omega arith
count_most (suc n) p = omega (arith, count_most n p, if_one (p n))

-- one number passes no more
pub count_less : (n i : ℕ) (p q : ℕ → Bool) → i < n → p i ≡ true → q i ≡ false → ((k : ℕ) → k < n → k ≢ i → p k ≡ q k) → count_below n p ≡ suc (count_below n q)
count_less zero i p q inside was now same = absurd (omega arith)
count_less (suc n) i p q inside was now same = elim (cases_eq n i) [
  | inl here ↦ (
      let first : p n ≡ true = ap p here ∙ was in
      let second : q n ≡ false = ap q here ∙ now in
      let rest : count_below n p ≡ count_below n q = count_same n p q (λ k h. same k (omega arith) (λ e. absurd (omega (arith, here, e, h)))) in
      rw (first, second) (omega (arith, rest)))
  | inr other ↦ (
      let rest : count_below n p ≡ suc (count_below n q) = count_less n i p q (below other) was now (λ k h. same k (omega arith)) in
      rw (same n (omega arith) other) (omega (arith, rest)))
]
  where
    below : n ≢ i → i < n
    below other = elim (cases_lt i n) [ inl less ↦ less | inr at ↦ absurd (other (omega (arith, at, inside))) ]

pub count_none : (n : ℕ) (p : ℕ → Bool) → ((k : ℕ) → k < n → p k ≡ false) → count_below n p ≡ 0
count_none zero p none = refl
count_none (suc n) p none = rw (none n (omega arith)) (omega (arith, count_none n p (λ k h. none k (omega arith))))

pub count_zero : (n : ℕ) (p : ℕ → Bool) → count_below n p ≡ 0 → (k : ℕ) → k < n → p k ≡ false
count_zero zero p none k inside = absurd (omega arith)
count_zero (suc n) p none k inside = elim (cases_eq k n) [
  | inl here ↦ ap p here ∙ if_true (p n) (omega (arith, none))
  | inr other ↦ count_zero n p (omega (arith, none)) k (below other)
]
  where
    below : k ≢ n → k < n
    below other = elim (cases_lt k n) [ inl less ↦ less | inr at ↦ absurd (other (omega (arith, at, inside))) ]

-- a number that passes
pub record Passes (n : ℕ) (p : ℕ → Bool) : Type 0 where
  pub number : ℕ
  pub inside : number < n
  pub passes : p number ≡ true

pub count_some : (n : ℕ) (p : ℕ → Bool) → 0 < count_below n p → Passes n p
count_some zero p some = absurd (omega arith)
count_some (suc n) p some = elim (cases_Bool (p n)) [
  | inl passed ↦ record { number = n; inside = omega arith; passes = passed }
  | inr failed ↦ (
      let none : ◌≡◌ {A = ℕ} (cond (p n) 1 0) 0 = rw failed refl in
      let rest : 0 < count_below n p = omega (arith, some, none) in
      let found = count_some n p rest in
      record { number = found.number; inside = omega (arith, found.inside); passes = found.passes })
]
