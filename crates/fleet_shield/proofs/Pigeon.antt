-- n + 1 numbers below n are not all different.
use Rattle.std.proofs.Common.{◌≡◌, ◌≢◌, ℕ, zero, suc, ◌+◌, ◌<◌, ◌≤◌, inl, inr, cond, eqb, sym, ap, refl, ◌∙◌, arith}
use Rattle.std.proofs.lemmas.Bool.{cases_eq}
use Rattle.std.proofs.lemmas.Bool.Decides.{eqb_tells}

-- the number at k, and where that is n the one after the last
below_last : (ℕ → ℕ) → ℕ → ℕ → ℕ
below_last g n k = cond (eqb (g k) n) (g (suc n)) (g k)

at_last : (g : ℕ → ℕ) (n k : ℕ) → g k ≡ n → below_last g n k ≡ g (suc n)
unfolding below_last
at_last g n k e = elim (eqb_tells (g k) n) [ inl p ↦ rw p.0 refl | inr p ↦ absurd (p.1 e) ]

off_last : (g : ℕ → ℕ) (n k : ℕ) → g k ≢ n → below_last g n k ≡ g k
unfolding below_last
off_last g n k ne = elim (eqb_tells (g k) n) [ inl p ↦ absurd (ne p.1) | inr p ↦ rw p.0 refl ]

pub pigeon : (n : ℕ) (g : ℕ → ℕ) → ((k : ℕ) → k ≤ n → g k < n) → ((i j : ℕ) → i < j → j ≤ n → g i ≢ g j) → ⊥
pigeon zero g below apart = omega (arith, below 0 (omega arith))
pigeon (suc n) g below apart = pigeon n (below_last g n) small other
  where
    small : (k : ℕ) → k ≤ n → below_last g n k < n
    small k le = elim (cases_eq (g k) n) [
      | inl e ↦ omega (arith, at_last g n k e, below (suc n) (omega arith), e, apart_last k le e)
      | inr ne ↦ omega (arith, off_last g n k ne, below k (omega (arith, le)), ne)
    ]
      where
        apart_last : (k : ℕ) → k ≤ n → g k ≡ n → g (suc n) ≢ n
        apart_last k le e d = apart k (suc n) (omega (arith, le)) (omega arith) (e ∙ sym d)

    other : (i j : ℕ) → i < j → j ≤ n → below_last g n i ≢ below_last g n j
    other i j less le same = elim (cases_eq (g i) n) [
      | inl e ↦ elim (cases_eq (g j) n) [
        | inl d ↦ apart i j less (omega (arith, le)) (e ∙ sym d)
        | inr nd ↦ apart j (suc n) (omega (arith, le)) (omega arith) (sym (off_last g n j nd) ∙ (sym same ∙ at_last g n i e))
      ]
      | inr ne ↦ elim (cases_eq (g j) n) [
        | inl d ↦ apart i (suc n) (omega (arith, less, le)) (omega arith) (sym (off_last g n i ne) ∙ (same ∙ at_last g n j d))
        | inr nd ↦ apart i j less (omega (arith, le)) (sym (off_last g n i ne) ∙ (same ∙ off_last g n j nd))
      ]
    ]
