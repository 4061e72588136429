-- The numbers of a range without two gaps, and how many there are.
use Rattle.std.proofs.Common.{◌≡◌, ℕ, ◌+◌, ◌-◌, ◌<◌, ◌≤◌, ◌⊎◌, inl, inr, refl, arith}
use Rattle.std.proofs.lemmas.Bool.{cases_lt}

-- the number is not in the gap from `a` up to `b`
abbrev pub IsOff : (a b k : ℕ) → Type 0
IsOff a b k = (k < a) ⊎ (b ≤ k)

-- where a number goes if that gap opens
pub record Skipped (a b i : ℕ) : Type 0 where
  pub to : ℕ
  pub how : ((i < a) × (to ≡ i)) ⊎ ((a ≤ i) × (to ≡ i + (b - a)))

pub skipped : (a b i : ℕ) → Skipped a b i
skipped a b i = elim (cases_lt i a) [ inl less ↦ record { to = i; how = inl (less, refl) } | inr from ↦ record { to = i + (b - a); how = inr (from, refl) } ]

skipped_rise : (a b i j : ℕ) → i < j → (skipped a b i).to < (skipped a b j).to
skipped_rise a b i j less = elim (skipped a b i).how [
  | inl p ↦ elim (skipped a b j).how [ inl q ↦ omega (arith, p.1, q.1, less) | inr q ↦ omega (arith, p.1, q.1, less) ]
  | inr p ↦ elim (skipped a b j).how [ inl q ↦ omega (arith, p.0, q.0, less) | inr q ↦ omega (arith, p.1, q.1, less) ]
]

-- the number at a place among those of a range without both gaps
pub pick : (a b c d lo i : ℕ) → ℕ
pick a b c d lo i = (skipped c d (skipped a b (lo + i)).to).to

pub pick_rise : (a b c d lo i j : ℕ) → i < j → pick a b c d lo i < pick a b c d lo j
unfolding pick
pick_rise a b c d lo i j less = skipped_rise c d (skipped a b (lo + i)).to (skipped a b (lo + j)).to (skipped_rise a b (lo + i) (lo + j) (omega (arith, less)))

pub pick_in : (a b c d lo hi i : ℕ) → a ≤ b → b ≤ c → c ≤ d → lo + i + (b - a) + (d - c) < hi
    → (lo ≤ pick a b c d lo i) × (pick a b c d lo i < hi) × IsOff a b (pick a b c d lo i) × IsOff c d (pick a b c d lo i)
unfolding pick
pick_in a b c d lo hi i ab bc cd room = elim (skipped a b (lo + i)).how [
  | inl p ↦ elim (skipped c d (skipped a b (lo + i)).to).how [
    | inl q ↦ (omega (arith, p.1, q.1), omega (arith, p.1, q.1, room), inl (omega (arith, p, q.1)), inl (omega (arith, q)))
    | inr q ↦ absurd (omega (arith, p, q.0, ab, bc))
  ]
  | inr p ↦ elim (skipped c d (skipped a b (lo + i)).to).how [
    | inl q ↦ (omega (arith, p.1, q.1), omega (arith, p.1, q.1, room), inr (omega (arith, p, q.1, ab)), inl (omega (arith, q)))
    | inr q ↦ (omega (arith, p.1, q.1), omega (arith, p.1, q.1, room), inr (omega (arith, p, q.1, ab)), inr (omega (arith, q, cd)))
  ]
]

-- what place a number has among these
pub shut : (a b c d lo k : ℕ) → ℕ
shut a b c d lo k = k - ((b - a) - (b - k)) - ((d - c) - (d - k)) - lo

-- before both gaps, between them, or after them
IsShut : (a b c d lo k s : ℕ) → Type 0
IsShut a b c d lo k s = ((k < a) × (s + lo ≡ k)) ⊎ (((b ≤ k) × (k < c) × (s + (b - a) + lo ≡ k)) ⊎ ((d ≤ k) × (s + (b - a) + (d - c) + lo ≡ k)))

shut_is : (a b c d lo hi k : ℕ) → lo ≤ a → a ≤ b → b ≤ c → c ≤ d → d ≤ hi → lo ≤ k → IsOff a b k → IsOff c d k → IsShut a b c d lo k (shut a b c d lo k)
unfolding shut IsShut
shut_is a b c d lo hi k la ab bc cd dh lk one two = elim one [
  | inl before ↦ inl (before, omega (arith, before, la, ab, bc, cd, lk))
  | inr after ↦ elim two [
    | inl between ↦ inr (inl (after, between, omega (arith, after, between, la, ab, bc, cd, lk)))
    | inr last ↦ inr (inr (last, omega (arith, last, after, la, ab, bc, cd, lk)))
  ]
]

pub shut_less : (a b c d lo hi k : ℕ) → lo ≤ a → a ≤ b → b ≤ c → c ≤ d → d ≤ hi → lo ≤ k → k < hi → IsOff a b k → IsOff c d k → shut a b c d lo k < (hi - lo) - (b - a) - (d - c)
unfolding IsShut
shut_less a b c d lo hi k la ab bc cd dh lk kh one two = elim (shut_is a b c d lo hi k la ab bc cd dh lk one two) [
  | inl p ↦ omega (arith, p, la, ab, bc, cd, dh)
  | inr other ↦ elim other [ inl p ↦ omega (arith, p, la, ab, bc, cd, dh) | inr p ↦ omega (arith, p, la, ab, bc, cd, dh, kh) ]
]

pub shut_once : (a b c d lo hi k l : ℕ) → lo ≤ a → a ≤ b → b ≤ c → c ≤ d → d ≤ hi → lo ≤ k → IsOff a b k → IsOff c d k → lo ≤ l → IsOff a b l → IsOff c d l
    → shut a b c d lo k ≡ shut a b c d lo l → k ≡ l
unfolding IsShut
shut_once a b c d lo hi k l la ab bc cd dh lk k1 k2 ll l1 l2 e = elim (shut_is a b c d lo hi k la ab bc cd dh lk k1 k2) [
  | inl p ↦ elim (shut_is a b c d lo hi l la ab bc cd dh ll l1 l2) [
    | inl q ↦ omega (arith, p.1, q.1, e)
    | inr other ↦ elim other [ inl q ↦ omega (arith, p, q, e, la, ab) | inr q ↦ omega (arith, p, q, e, la, ab, bc, cd) ]
  ]
  | inr first ↦ elim first [
    | inl p ↦ elim (shut_is a b c d lo hi l la ab bc cd dh ll l1 l2) [
      | inl q ↦ omega (arith, p, q, e, la, ab)
      | inr other ↦ elim other [ inl q ↦ omega (arith, p.2, q.2, e) | inr q ↦ omega (arith, p, q, e, ab, bc, cd) ]
    ]
    | inr p ↦ elim (shut_is a b c d lo hi l la ab bc cd dh ll l1 l2) [
      | inl q ↦ omega (arith, p, q, e, la, ab, bc, cd)
      | inr other ↦ elim other [ inl q ↦ omega (arith, p, q, e, ab, bc, cd) | inr q ↦ omega (arith, p.1, q.1, e) ]
    ]
  ]
]
