-- How the search for conflicts goes on from one robot to the one before it.
use Rattle.std.proofs.Common.{◌≡◌, ◌≢◌, ℕ, ◌+◌, ◌<◌, ◌≤◌, ◌⊎◌, inl, inr, true, false, cond, ltb, List, length, slice_index, Option, Some, None, refl, sym, ap, subst, ◌∙◌, arith, rules}
use Rattle.std.specs.Ordering.{nat_cmp, is_eq}
use Rattle.std.specs.declared.cmp.Ordering.TheVariants.{Less, Equal, Greater}
use Rattle.std.proofs.lemmas.Bool.{cases_eq, cases_lt, ne_eqb}
use Rattle.fleet_check.specs.Fault.{ShareCell, Exchange, IsFirstPair}
use Rattle.fleet_check.specs.inside.Seats.{AreSeats, IsSeat, IsShared, IsPartner}

-- another key is not equal
pub is_other : (k q : ℕ) → (k ≡ q → ⊥) → is_eq (nat_cmp k q) ≡ false
is_other k q ne = rw (ne_eqb k q ne) (elim (ltb k q) as (λ v. is_eq (cond v Less (cond false Equal Greater)) ≡ false) [ true ↦ refl | false ↦ refl ])

pub none_left : (o : Option ℕ) → ((x : ℕ) → o ≡ Some x → ⊥) → o ≡ None
none_left None no_some = refl
none_left (Some x) no_some = absurd (no_some x refl)

none_there : (to : List ℕ) (c : ℕ) → IsSeat to (length to) c None
none_there to c r low less = absurd (omega (arith, low, less))

-- one robot more: on its own cell it is the first, and elsewhere nothing changes
module _ (to : List ℕ) (low high : ℕ) (step : low + 1 ≡ high) (inside : low < length to) where
  seat_here : IsSeat to low (slice_index to low) (Some low)
  seat_here = (omega arith, inside, refl, λ k a b. absurd (omega (arith, a, b)))

  seat_there : (c : ℕ) (o : Option ℕ) → c ≢ slice_index to low → IsSeat to high c o → IsSeat to low c o
  seat_there c None ne s = λ r from less e. elim (cases_eq r low) [
    | inl same ↦ ne (sym e ∙ ap (slice_index to) same)
    | inr more ↦ s r (omega (arith, from, more, step)) less e
  ]
  seat_there c (Some k) ne s = (
    omega (arith, s.0, step),
    s.1,
    s.2,
    λ r from less e. elim (cases_eq r low) [
      | inl same ↦ ne (sym e ∙ ap (slice_index to) same)
      | inr more ↦ s.3 r (omega (arith, from, more, step)) less e
    ],
  )

  pub seat_more : (seat new : ℕ → Option ℕ) → ((c : ℕ) → IsSeat to high c (seat c)) → (new (slice_index to low) ≡ Some low) → ((c : ℕ) → (slice_index to low ≡ c → ⊥) → new c ≡ seat c) → (c : ℕ) → IsSeat to low c (new c)
  seat_more seat new s here there c = elim (cases_eq c (slice_index to low)) [
    | inl same ↦ subst (λ (x : ℕ). IsSeat to low x (new x)) (sym same) (subst (IsSeat to low (slice_index to low)) (sym here) seat_here)
    | inr ne ↦ subst (IsSeat to low c) (sym (there c (λ e. ne (sym e)))) (seat_there c (seat c) ne (s c))
  ]

  -- nobody after it moves to the robot's cell
  pub shared_same : (o : Option (ℕ × ℕ)) → IsSeat to high (slice_index to low) None → IsShared to high o → IsShared to low o
  shared_same None alone s = λ i j from less inner e. elim (cases_eq i low) [
    | inl same ↦ alone j (omega (arith, same, less, step)) inner (sym e ∙ ap (slice_index to) same)
    | inr more ↦ s i j (omega (arith, from, more, step)) less inner e
  ]
  shared_same (Some p) alone s = (
    omega (arith, s.0, step),
    s.1,
    s.2,
    s.3,
    λ k l from less inner e. elim (cases_eq k low) [
      | inl same ↦ absurd (alone l (omega (arith, same, less, step)) inner (sym e ∙ ap (slice_index to) same))
      | inr more ↦ s.4 k l (omega (arith, from, more, step)) less inner e
    ],
  )

  -- the robot and the next one on its cell are the first two
  pub shared_new : (j : ℕ) → IsSeat to high (slice_index to low) (Some j) → IsShared to low (Some (low, j))
  shared_new j s = (
    omega arith,
    omega (arith, s.0, step),
    s.1,
    sym s.2,
    λ k l from less inner e. elim (cases_eq k low) [
      | inl same ↦ inr (
        sym same,
        elim (cases_lt l j) [
          | inl before ↦ absurd (s.3 l (omega (arith, same, less, step)) before (sym e ∙ ap (slice_index to) same))
          | inr after ↦ after
        ],
      )
      | inr more ↦ inl (omega (arith, from, more))
    ],
  )

pub first_shared : (to : List ℕ) (i j : ℕ) → IsShared to 0 (Some (i, j)) → IsFirstPair (ShareCell to) (length to) i j
first_shared to i j s = record { order = s.1; inside = s.2; holds = s.3; none_before = λ k l less inner e. s.4 k l (omega arith) less inner e }

pub are_seats : (to : List ℕ) (seat : ℕ → Option ℕ) → ((c : ℕ) → IsSeat to 0 c (seat c)) → IsShared to 0 None → AreSeats to seat
are_seats to seat s apart = record { apart = λ i j less inner e. apart i j (omega arith) less inner e; each = each; only = only }
  where
    only : (c r : ℕ) → seat c ≡ Some r → (r < length to) × (slice_index to r ≡ c)
    only c r e = let p : IsSeat to 0 c (Some r) = subst (IsSeat to 0 c) e (s c) in (p.1, p.2)

    is : (r : ℕ) (o : Option ℕ) → r < length to → IsSeat to 0 (slice_index to r) o → o ≡ Some r
    is r None less p = absurd (p r (omega arith) less refl)
    is r (Some k) less p = ap Some (elim (cases_lt k r) [
      | inl below ↦ absurd (apart k r (omega arith) below less p.2)
      | inr above ↦ elim (cases_lt r k) [
        | inl below ↦ absurd (p.3 r (omega arith) below refl)
        | inr under ↦ omega (arith, above, under)
      ]
    ])

    each : (r : ℕ) → r < length to → seat (slice_index to r) ≡ Some r
    each r less = is r (seat (slice_index to r)) less (s (slice_index to r))

-- the one robot that may exchange cells with another is the one that moves to its cell
module _ (from to : List ℕ) (seat : ℕ → Option ℕ) (s : AreSeats to seat) (i : ℕ) where
  pub partner : (j : ℕ) → j < length to → Exchange from to i j → seat (slice_index from i) ≡ Some j
  partner j inner e = subst (λ (c : ℕ). seat c ≡ Some j) e.1 (s.each j inner)

  pub one_partner : (k : ℕ) → seat (slice_index from i) ≡ Some k → (j : ℕ) → j < length to → Exchange from to i j → j ≡ k
  one_partner k is j inner e = some_once j k (sym (partner j inner e) ∙ is)
    where
      some_once : (j k : ℕ) → Some j ≡ Some k → j ≡ k
      some_once j k e = search (rules, e)

  pub partner_first : (k : ℕ) → ((a : ℕ) → a < i → (b : ℕ) → a < b → b < length to → Exchange from to a b → ⊥) → IsPartner from to seat i k
      → IsFirstPair (Exchange from to) (length to) i k
  partner_first k before p = record {
    order = p.greater;
    inside = (s.only (slice_index from i) k p.comes).0;
    holds = (sym p.back, (s.only (slice_index from i) k p.comes).1);
    none_before = none_before;
  }
    where
      none_before : (a b : ℕ) → a < b → b < length to → Exchange from to a b → (i < a) ⊎ ((i ≡ a) × (k ≤ b))
      none_before a b order inner e = elim (cases_lt a i) [
        | inl below ↦ absurd (before a below b order inner e)
        | inr above ↦ elim (cases_eq a i) [
          | inl same ↦ inr (sym same, (let one = one_partner k p.comes b inner (subst (λ (x : ℕ). Exchange from to x b) same e) in omega (arith, one)))
          | inr more ↦ inl (omega (arith, above, more))
        ]
      ]
