-- Who is the eldest, and who comes before whom.
use Rattle.std.proofs.Common.{◌≡◌, ◌≢◌, ℕ, zero, suc, ◌<◌, ◌⊎◌, inl, inr, true, false, Option, Some, None, sym, refl, ap, ◌∙◌, arith}
use Rattle.std.specs.Prelude.{nat_lt, ◌==◌, ◌&&◌}
use Rattle.std.proofs.lemmas.Bool.{cases_lt, cases_order, or_cases, and_parts, ltb-true, eqb-true, lt-ltb, eq-eqb, or_left, or_right, and_from, cases_Bool}
use Rattle.fleet_pibt.specs.Order.{ComesBefore}
use Rattle.fleet_pibt.proofs.Precedences.{outranks, eldest_alone, eldest_stays, eldest_moves}
use Rattle.fleet_bound.specs.Waiting.{Moment, comes_before, IsEldest}

same_age : (v w : ℕ) → Some v ≡ Some w → v ≡ w
same_age v w e = cc

pub none_or_some : (o : Option ℕ) → (o ≡ None) ⊎ ((x : ℕ) × (o ≡ Some x))
none_or_some None = inl refl
none_or_some (Some x) = inr (x, refl)

-- who comes before r waits, longer than r or as long with a lesser number
pub comes_before-true : (o : Option ℕ) (q w r : ℕ) → comes_before o q w r ≡ true → (v : ℕ) × (o ≡ Some v) × ((w < v) ⊎ ((v ≡ w) × (q < r)))
comes_before-true None q w r e = cc
comes_before-true (Some v) q w r e = (
  v,
  refl,
  elim (or_cases (nat_lt w v) ((v == w) && nat_lt q r) e) [
    | inl a ↦ inl (ltb-true w v a)
    | inr b ↦ (let both = and_parts (v == w) (nat_lt q r) b in inr (eqb-true v w both.0, ltb-true q r both.1))
  ],
)

pub comes_before-from : (o : Option ℕ) (v q w r : ℕ) → o ≡ Some v → (w < v) ⊎ ((v ≡ w) × (q < r)) → comes_before o q w r ≡ true
comes_before-from o v q w r e (inl a) = rw e (or_left (nat_lt w v) ((v == w) && nat_lt q r) (lt-ltb w v a))
comes_before-from o v q w r e (inr b) = rw e (or_right (nat_lt w v) ((v == w) && nat_lt q r) (and_from (v == w) (nat_lt q r) (eq-eqb v w b.0) (lt-ltb q r b.1)))

pub comes_before-not : (o : Option ℕ) (q w r : ℕ) → ((v : ℕ) → o ≡ Some v → (w < v) ⊎ ((v ≡ w) × (q < r)) → ⊥) → comes_before o q w r ≡ false
comes_before-not o q w r never = elim (cases_Bool (comes_before o q w r)) [
  | inl yes_older ↦ (let s = comes_before-true o q w r yes_older in absurd (never s.0 s.1 s.2))
  | inr f ↦ f
]

-- who waits comes before one that waits for less, or for as long with a greater number, and before one that does not wait
comes_from : (a b : Option ℕ) (v i j : ℕ) → a ≡ Some v → ((w : ℕ) → b ≡ Some w → (w < v) ⊎ ((v ≡ w) × (i < j))) → ComesBefore a b i j
comes_from (Some a) (Some b) v i j e less = (let same : a ≡ v = same_age a v e in elim (less b refl) [ inl l ↦ inl (omega (arith, l, same)) | inr l ↦ inr (same ∙ l.0, l.1) ])
comes_from (Some a) None v i j e less = tt
comes_from None b v i j e less = cc

-- ---- the eldest

-- of the first k robots: nobody waits, or one is the eldest
module _ (m : Moment) where
  NobodyWaits : ℕ → Type 0
  NobodyWaits k = (q v : ℕ) → q < k → m.wait q ≡ Some v → ⊥

  next : (k : ℕ) → NobodyWaits k ⊎ ((e : ℕ) × IsEldest k m e) → (m.wait k ≡ None) ⊎ ((x : ℕ) × (m.wait k ≡ Some x)) → NobodyWaits (suc k) ⊎ ((e : ℕ) × IsEldest (suc k) m e)
  unfolding NobodyWaits
  next k (inl nobody) (inl none) = inl (λ q v l s. elim (cases_lt q k) [ inl b ↦ nobody q v b s | inr b ↦ (let same : q ≡ k = omega arith in cc (ap m.wait same)) ])
  next k (inl nobody) (inr some) = inr (k, eldest_alone m.wait k (suc k) some.0 (omega arith) (λ q l. nobody_waits q (λ v s. nobody q v l s)) some.1)
    where
      nobody_waits : (q : ℕ) → ((v : ℕ) → m.wait q ≡ Some v → ⊥) → m.wait q ≡ None
      nobody_waits q never = elim (none_or_some (m.wait q)) [ inl none ↦ none | inr is ↦ absurd (never is.0 is.1) ]
  next k (inr found) (inl none) = inr (found.0, eldest_stays m.wait k (suc k) found.0 (omega arith) found.1 (comes_from (m.wait found.0) (m.wait k) found.1.age found.0 k found.1.waits (λ w s. cc)))
  next k (inr found) (inr some) = elim (cases_lt found.1.age some.0) [
    | inl more ↦ inr (k, eldest_moves m.wait k (suc k) found.0 some.0 (omega arith) found.1 some.1 (comes_from (m.wait k) (m.wait found.0) some.0 k found.0 some.1 (λ w s. (let same = same_age w found.1.age (sym s ∙ found.1.waits) in inl (omega (arith, same, more))))))
    | inr less ↦ inr (
      found.0,
      eldest_stays m.wait k (suc k) found.0 (omega arith) found.1 (comes_from (m.wait found.0) (m.wait k) found.1.age found.0 k found.1.waits
          (λ w s. (let same = same_age w some.0 (sym s ∙ some.1) in
          elim (cases_order w found.1.age) [ inl eq ↦ inr (sym eq, found.1.known) | inr ne ↦ inl (elim ne [ inl c ↦ c | inr c ↦ absurd (omega (arith, c, same, less)) ]) ]))),
    )
  ]

  search_eldest : (k : ℕ) → NobodyWaits k ⊎ ((e : ℕ) × IsEldest k m e)
  unfolding NobodyWaits
  search_eldest zero = inl (λ q v l s. omega arith)
  search_eldest (suc k) = next k (search_eldest k) (none_or_some (m.wait k))

  -- if somebody waits there is an eldest
  pub eldest-exists : (n r w : ℕ) → r < n → m.wait r ≡ Some w → (e : ℕ) × IsEldest n m e
  unfolding NobodyWaits
  eldest-exists n r w l s = elim (search_eldest n) [ inl nobody ↦ absurd (nobody r w l s) | inr found ↦ found ]

-- the eldest comes before each other robot that waits
pub eldest-before : (n : ℕ) (m : Moment) (e r w : ℕ) → IsEldest n m e → r < n → m.wait r ≡ Some w → e ≢ r → comes_before (m.wait e) e w r ≡ true
eldest-before n m e r w eldest l s ne = comes_before-from (m.wait e) eldest.age e w r eldest.waits (elim (outranks m.wait n e eldest r w l s) [
  | inl a ↦ inl a
  | inr b ↦ inr (sym b.0, omega (arith, b.1, ne))
])
