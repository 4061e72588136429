-- Who comes before whom, and the eldest of some robots.
use Rattle.std.proofs.Common.{◌≡◌, ℕ, ◌+◌, ◌<◌, ◌≤◌, ◌⊎◌, inl, inr, Option, Some, None, sym, subst, ap, ◌∙◌, arith}
use Rattle.std.proofs.lemmas.Bool.{cases_eq, cases_lt}
use Rattle.fleet_pibt.specs.Order.{ComesBefore}
use Rattle.fleet_pibt.specs.Eldest.{IsEldestOf}

pub comes_once : (a b : Option ℕ) (i j : ℕ) → ComesBefore a b i j → ComesBefore b a j i → ⊥
comes_once (Some a) (Some b) i j (inl p) (inl q) = omega (arith, p, q)
comes_once (Some a) (Some b) i j (inl p) (inr q) = omega (arith, p, q.0)
comes_once (Some a) (Some b) i j (inr p) (inl q) = omega (arith, p.0, q)
comes_once (Some a) (Some b) i j (inr p) (inr q) = omega (arith, p.1, q.1)
comes_once (Some a) None i j p q = q
comes_once None (Some b) i j p q = p
comes_once None None i j p q = omega (arith, p, q)

pub comes_on : (a b c : Option ℕ) (i j k : ℕ) → ComesBefore a b i j → ComesBefore b c j k → ComesBefore a c i k
comes_on (Some a) (Some b) (Some c) i j k (inl p) (inl q) = inl (omega (arith, p, q))
comes_on (Some a) (Some b) (Some c) i j k (inl p) (inr q) = inl (omega (arith, p, q.0))
comes_on (Some a) (Some b) (Some c) i j k (inr p) (inl q) = inl (omega (arith, p.0, q))
comes_on (Some a) (Some b) (Some c) i j k (inr p) (inr q) = inr (p.0 ∙ q.0, omega (arith, p.1, q.1))
comes_on (Some a) (Some b) None i j k p q = tt
comes_on (Some a) None (Some c) i j k p q = absurd q
comes_on (Some a) None None i j k p q = tt
comes_on None (Some b) c i j k p q = absurd p
comes_on None None (Some c) i j k p q = absurd q
comes_on None None None i j k p q = omega (arith, p, q)

same_age : (v w : ℕ) → Some v ≡ Some w → v ≡ w
same_age v w e = cc

-- ---- the eldest

-- whoever waits has waited for less, or for as long with a number that is no less
pub outranks : (f : ℕ → Option ℕ) (n e : ℕ) (eldest : IsEldestOf f n e) (q v : ℕ) → q < n → f q ≡ Some v → (v < eldest.age) ⊎ ((v ≡ eldest.age) × (e ≤ q))
outranks f n e eldest q v known is = elim (cases_eq q e) [
  | inl same ↦ inr (same_age v eldest.age (sym is ∙ ap f same ∙ eldest.waits), omega (arith, same))
  | inr ne ↦ behind (subst (λ (o : Option ℕ). ComesBefore (Some eldest.age) o e q) is (eldest.first q known ne))
]
  where
    behind : ComesBefore (Some eldest.age) (Some v) e q → (v < eldest.age) ⊎ ((v ≡ eldest.age) × (e ≤ q))
    behind (inl a) = inl a
    behind (inr b) = inr (sym b.0, omega (arith, b.1))

-- one robot more, where nobody waited
pub eldest_alone : (f : ℕ → Option ℕ) (n m w : ℕ) → m ≡ n + 1 → ((r : ℕ) → r < n → f r ≡ None) → f n ≡ Some w → IsEldestOf f m n
eldest_alone f n m w more none is = record {
  known = omega (arith, more);
  age = w;
  waits = is;
  first = λ r l ne. subst (λ (o : Option ℕ). ComesBefore (Some w) o n r) (sym (none r (omega (arith, more, l, ne)))) tt;
}

-- one robot more, which comes after the eldest
pub eldest_stays : (f : ℕ → Option ℕ) (n m e : ℕ) → m ≡ n + 1 → IsEldestOf f n e → ComesBefore (f e) (f n) e n → IsEldestOf f m e
eldest_stays f n m e more eldest after = record {
  known = omega (arith, more, eldest.known);
  age = eldest.age;
  waits = eldest.waits;
  first = λ r l ne. elim (cases_lt r n) [
    | inl before ↦ eldest.first r before ne
    | inr past ↦ (
        let here : n ≡ r = omega (arith, more, l, past) in
        subst (λ (k : ℕ). ComesBefore (Some eldest.age) (f k) e k) here (subst (λ (o : Option ℕ). ComesBefore o (f n) e n) eldest.waits after))
  ];
}

-- one robot more, which comes before the eldest
pub eldest_moves : (f : ℕ → Option ℕ) (n m e w : ℕ) → m ≡ n + 1 → IsEldestOf f n e → f n ≡ Some w → ComesBefore (f n) (f e) n e → IsEldestOf f m n
eldest_moves f n m e w more eldest is before = record {
  known = omega (arith, more);
  age = w;
  waits = is;
  first = λ r l ne.
      let older : ComesBefore (Some w) (f e) n e = subst (λ (o : Option ℕ). ComesBefore o (f e) n e) is before in
      elim (cases_eq e r) [
        | inl same ↦ subst (λ (k : ℕ). ComesBefore (Some w) (f k) n k) same older
        | inr other ↦ comes_on (Some w) (Some eldest.age) (f r) n e r (subst (λ (o : Option ℕ). ComesBefore (Some w) o n e) eldest.waits older) (eldest.first r (omega (arith, more, l, ne)) (λ s. other (sym s)))
      ];
}
