-- The least number that passes, and shortest walks.
use Rattle.std.proofs.Common.{◌≡◌, ℕ, zero, suc, ◌+◌, ◌<◌, ◌≤◌, ◌⊎◌, inl, inr, Bool, true, false, cond, List, [], ◌∷◌, length, get_or, Option, Some, None, refl, sym, ap, ◌∙◌, arith}
use Rattle.std.specs.Prelude.{nat_lt}
use Rattle.std.specs.List.{count_by}
use Rattle.std.proofs.lemmas.Bool.{cases_Bool, cases_lt, cases_order, ltb-true, lt-ltb, le-ltb, false≢true}
use Rattle.std.proofs.lemmas.List.Sums.{sum_by-cons, count_by-le-length}
use Rattle.fleet_grid.specs.Distance.{or_this, least_below}

pub none_or_some : {A : Type 0} (o : Option A) → (o ≡ None) ⊎ ((x : A) × (o ≡ Some x))
none_or_some None = inl refl
none_or_some (Some x) = inr (x, refl)

pub least_below-none : (p : ℕ → Bool) (n : ℕ) → least_below p n ≡ None → (k : ℕ) → k < n → p k ≡ false
least_below-none p zero e k l = absurd (omega arith)
least_below-none p (suc n) e k l = elim (none_or_some (least_below p n)) [
  | inl none ↦ elim (cases_Bool (p n)) [
    | inl yes_here ↦ (let found : or_this (least_below p n) (p n) n ≡ Some n = rw (none, yes_here) refl in absurd (cc (found, e)))
    | inr fails ↦ elim (cases_lt k n) [ inl b ↦ least_below-none p n none k b | inr b ↦ (let same : k ≡ n = omega arith in ap p same ∙ fails) ]
  ]
  | inr some ↦ (let found : or_this (least_below p n) (p n) n ≡ Some some.0 = rw some.1 refl in absurd (cc (found, e)))
]

-- the answer passes, lies below the bound, and nothing less passes
pub least_below-some : (p : ℕ → Bool) (n d : ℕ) → least_below p n ≡ Some d → (d < n) × (p d ≡ true) × ((k : ℕ) → k < d → p k ≡ false)
least_below-some p zero d e = cc
least_below-some p (suc n) d e = elim (none_or_some (least_below p n)) [
  | inl none ↦ elim (cases_Bool (p n)) [
    | inl passes ↦ (
        let found : or_this (least_below p n) (p n) n ≡ Some n = rw (none, passes) refl in
        let same : n ≡ d = cc (found, e) in
        (omega arith, ap p (sym same) ∙ passes, λ k l. least_below-none p n none k (omega arith)))
    | inr fails ↦ (let found : or_this (least_below p n) (p n) n ≡ None = rw (none, fails) refl in absurd (cc (found, e)))
  ]
  | inr some ↦ (
      let found : or_this (least_below p n) (p n) n ≡ Some some.0 = rw some.1 refl in
      let same : some.0 ≡ d = cc (found, e) in
      let before = least_below-some p n some.0 some.1 in
      (omega (arith, before.0), ap p (sym same) ∙ before.1, λ k l. before.2 k (omega arith)))
]

-- a number that passes and is the least is found below a bound
pub least_below-is : (p : ℕ → Bool) (n d : ℕ) → d < n → p d ≡ true → ((k : ℕ) → k < d → p k ≡ false) → least_below p n ≡ Some d
least_below-is p n d l passes least = elim (none_or_some (least_below p n)) [
  | inl none ↦ absurd (false≢true (sym (least_below-none p n none d l) ∙ passes))
  | inr some ↦ (
      let s = least_below-some p n some.0 some.1 in
      elim (cases_order some.0 d) [
        | inl same ↦ some.1 ∙ ap (λ (x : ℕ). Some x) same
        | inr other ↦ elim other [
          | inl less ↦ absurd (false≢true (sym (least some.0 less) ∙ s.1))
          | inr more ↦ absurd (false≢true (sym (s.2 d more) ∙ passes))
        ]
      ])
]

-- ---- counting

count_by-cons : (p : ℕ → Bool) → (x : ℕ) (xs : List ℕ) → count_by p (x ∷ xs) ≡ cond (p x) 1 0 + count_by p xs
count_by-cons p x xs = sum_by-cons (λ x. cond (p x) 1 0) x xs

one-le : (a b : Bool) → (a ≡ true → b ≡ true) → cond a 1 0 ≤ cond b 1 0
one-le false b h = omega arith
one-le true b h = rw (h refl) (omega arith)

one-lt : (a b : Bool) → a ≡ false → b ≡ true → cond a 1 0 + 1 ≤ cond b 1 0
one-lt a b e f = rw (e, f) (omega arith)

count_by-mono : (p q : ℕ → Bool) (xs : List ℕ) → ((x : ℕ) → p x ≡ true → q x ≡ true) → count_by p xs ≤ count_by q xs
count_by-mono p q [] h = omega arith
count_by-mono p q (x ∷ xs) h = omega (arith, count_by-cons p x xs, count_by-cons q x xs, one-le (p x) (q x) (h x), count_by-mono p q xs h)

count_by-strict : (p q : ℕ → Bool) (xs : List ℕ) (i : ℕ) → ((x : ℕ) → p x ≡ true → q x ≡ true) → i < length xs → p (get_or xs i 0) ≡ false → q (get_or xs i 0) ≡ true → count_by p xs < count_by q xs
count_by-strict p q [] i h l e f = absurd (omega arith)
count_by-strict p q (x ∷ xs) zero h l e f = omega (arith, count_by-cons p x xs, count_by-cons q x xs, one-lt (p x) (q x) e f, count_by-mono p q xs h)
count_by-strict p q (x ∷ xs) (suc i) h l e f = omega (arith, count_by-cons p x xs, count_by-cons q x xs, one-le (p x) (q x) (h x), count_by-strict p q xs i h (omega arith) e f)

-- a distance of which each lesser number is the distance of a cell is below the number of cells
module _ (away : ℕ → ℕ) (cells : List ℕ) (far : ℕ) (all : (k : ℕ) → k ≤ far → (i : ℕ) × (i < length cells) × (away (get_or cells i 0) ≡ k)) where
  is_nearer : ℕ → ℕ → Bool
  is_nearer k c = nat_lt (away c) k

  one_more : (k : ℕ) → k ≤ far → count_by (is_nearer k) cells < count_by (is_nearer (k + 1)) cells
  unfolding is_nearer
  one_more k l =
      let s = all k l in
      count_by-strict (is_nearer k) (is_nearer (k + 1)) cells s.0 (λ c t. lt-ltb (away c) (k + 1) (omega (arith, ltb-true (away c) k t))) s.1
      (le-ltb (away (get_or cells s.0 0)) k (omega (arith, s.2)))
      (lt-ltb (away (get_or cells s.0 0)) (k + 1) (omega (arith, s.2)))

  so_many : (k : ℕ) → k ≤ far + 1 → k ≤ count_by (is_nearer k) cells
  so_many zero l = omega arith
  so_many (suc k) l = let here : suc k ≡ k + 1 = omega arith in rw here (omega (arith, so_many k (omega arith), one_more k (omega arith)))

  pub distances-short : far < length cells
  distances-short = omega (arith, so_many (far + 1) (omega arith), count_by-le-length (is_nearer (far + 1)) cells)
