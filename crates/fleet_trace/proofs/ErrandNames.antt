-- The names of an opening's errands, as the loops over them go on.
use Rattle.std.proofs.Common.{◌≡◌, ℕ, zero, suc, ◌+◌, ◌<◌, ◌≤◌, inl, inr, List, [], ◌∷◌, length, get_or, Option, Some, None, refl, sym, ap, subst, ◌∙◌, arith, true, false, cond, ltb}
use Rattle.std.specs.Prelude.{is_some}
use Rattle.std.specs.List.{slice_get}
use Rattle.std.specs.Option.{unwrap_or}
use Rattle.std.proofs.lemmas.Bool.{cases_eq, cases_lt, ne_eqb}
use Rattle.std.specs.Ordering.{nat_cmp, is_eq}
use Rattle.std.specs.declared.cmp.Ordering.TheVariants.{Less, Equal, Greater}
use Rattle.fleet_queue.specs.declared.errand.Errand.{Errand}
use Rattle.fleet_history.specs.declared.history.RobotState.{RobotState}
use Rattle.fleet_trace.specs.inside.Opened.{IsNamed, AreRising, errands_in, AreClientNamesInOrder, Precedes, AreEntered, IsGreatest, IsAbove}

pub impossible : false ≡ true → ⊥
impossible e = cc

pub some_is : {X : Type 0} (o : Option X) → is_some o ≡ true → (x : X) × (o ≡ Some x)
some_is None e = absurd (impossible e)
some_is (Some x) e = (x, refl)

pub none_is : {X : Type 0} (o : Option X) → is_some o ≡ false → o ≡ None
none_is None e = refl
none_is (Some x) e = absurd (impossible (sym e))

-- ---- places

pub get-slice : {X : Type 0} (xs : List X) (i : ℕ) (d : X) → i < length xs → slice_get xs i ≡ Some (get_or xs i d)
get-slice [] i d less = absurd (omega (arith, less))
get-slice (x ∷ xs) zero d less = refl
get-slice (x ∷ xs) (suc i) d less = get-slice xs i d (omega (arith, less))

pub get-within : {X : Type 0} (xs : List X) (i : ℕ) (x : X) → slice_get xs i ≡ Some x → i < length xs
get-within [] i x e = cc
get-within (y ∷ xs) zero x e = omega arith
get-within (y ∷ xs) (suc i) x e = omega (arith, get-within xs i x e)

same_some : {X : Type 0} (o : Option X) (x y : X) → o ≡ Some x → o ≡ Some y → x ≡ y
same_some o x y a b = ap (λ (k : Option _). unwrap_or k x) (sym a ∙ b)

-- ---- numbers that rise

module _ (errands : List Errand) (c i : ℕ) (e : Errand) (at : slice_get errands i ≡ Some e) where
  here : e.client ≡ c → IsNamed errands c e.number i
  here own = record { errand = e; stands = at; client = own; number = refl }

  number_here : (n : ℕ) → IsNamed errands c n i → n ≡ e.number
  number_here n h = sym h.number ∙ ap (λ (x : Errand). x.number) (same_some (slice_get errands i) h.errand e h.stands at)

  client_here : (n : ℕ) → IsNamed errands c n i → e.client ≡ c
  client_here n h = ap (λ (x : Errand). x.client) (same_some (slice_get errands i) e h.errand at h.stands) ∙ h.client

  pub falls : e.client ≡ c → (last : Option ℕ) → IsGreatest errands c i last → (IsAbove e.number last → ⊥) → AreRising c errands → ⊥
  falls own None greatest low rising = low refl
  falls own (Some last) greatest low rising = low (rising greatest.0.0 i last e.number greatest.0.1.0 greatest.0.1.1 (here own))

  -- every number before is below the one here
  below : (last : Option ℕ) → IsGreatest errands c i last → IsAbove e.number last → (k n : ℕ) → k < i → IsNamed errands c n k → n < e.number
  below None greatest above k n less h = absurd (greatest k n less h)
  below (Some last) greatest above k n less h = omega (arith, greatest.1 k n less h, above)

  pub greatest_new : e.client ≡ c → (last : Option ℕ) → IsGreatest errands c i last → IsAbove e.number last → IsGreatest errands c (i + 1) (Some e.number)
  greatest_new own last greatest above = (
    (i, (omega arith, here own)),
    λ k n less h. elim (cases_eq k i) [
      | inl same ↦ omega (arith, number_here n (subst (λ (x : ℕ). IsNamed errands c n x) same h))
      | inr other ↦ omega (arith, below last greatest above k n (omega (arith, less, other)) h)
    ],
  )

  pub greatest_same : (e.client ≡ c → ⊥) → (last : Option ℕ) → IsGreatest errands c i last → IsGreatest errands c (i + 1) last
  greatest_same foreign None greatest = λ k n less h. elim (cases_eq k i) [
    | inl same ↦ foreign (client_here n (subst (λ (x : ℕ). IsNamed errands c n x) same h))
    | inr other ↦ greatest k n (omega (arith, less, other)) h
  ]
  greatest_same foreign (Some last) greatest = (
    (greatest.0.0, (omega (arith, greatest.0.1.0), greatest.0.1.1)),
    λ k n less h. elim (cases_eq k i) [
      | inl same ↦ absurd (foreign (client_here n (subst (λ (x : ℕ). IsNamed errands c n x) same h)))
      | inr other ↦ greatest.1 k n (omega (arith, less, other)) h
    ],
  )

  pub rising_new : (last : Option ℕ) → IsGreatest errands c i last → IsAbove e.number last → ((k j n l : ℕ) → k < j → j < i → IsNamed errands c n k → IsNamed errands c l j → n < l)
      → (k j n l : ℕ) → k < j → j < i + 1 → IsNamed errands c n k → IsNamed errands c l j → n < l
  rising_new last greatest above so_far k j n l less within a b = elim (cases_eq j i) [
    | inl same ↦ omega (arith, below last greatest above k n (omega (arith, less, same)) a, number_here l (subst (λ (x : ℕ). IsNamed errands c l x) same b))
    | inr other ↦ so_far k j n l less (omega (arith, within, other)) a b
  ]

  pub rising_same : (e.client ≡ c → ⊥) → ((k j n l : ℕ) → k < j → j < i → IsNamed errands c n k → IsNamed errands c l j → n < l)
      → (k j n l : ℕ) → k < j → j < i + 1 → IsNamed errands c n k → IsNamed errands c l j → n < l
  rising_same foreign so_far k j n l less within a b = elim (cases_eq j i) [
    | inl same ↦ absurd (foreign (client_here l (subst (λ (x : ℕ). IsNamed errands c l x) same b)))
    | inr other ↦ so_far k j n l less (omega (arith, within, other)) a b
  ]

pub rising_all : (errands : List Errand) (c i : ℕ) → length errands ≤ i → ((k j n l : ℕ) → k < j → j < i → IsNamed errands c n k → IsNamed errands c l j → n < l) → AreRising c errands
rising_all errands c i le so_far k j n l less a b = so_far k j n l less (omega (arith, get-within errands j b.errand b.stands, le)) a b

-- ---- numbers that were entered

module _ {A : Type 0} (robots : List (RobotState A)) (c r i : ℕ) (seen : ℕ → Option ℕ) (entered : AreEntered robots c r i seen) where
  module _ (e : Errand) (at : slice_get (errands_in robots r) i ≡ Some e) where
    -- a number that stands here was not entered
    pub entered_new : e.client ≡ c → seen e.number ≡ None → (new : ℕ → Option ℕ) → new e.number ≡ Some r → ((n : ℕ) → (e.number ≡ n → ⊥) → new n ≡ seen n) → AreEntered robots c r (i + 1) new
    entered_new own fresh new put kept = record {
      each = λ q j n before h. by_place q j n before h;
      only = λ n q found. elim (cases_eq n e.number) [
        | inl same ↦ (i, (inr (sym (ap (λ (o : Option ℕ). unwrap_or o q) (sym put ∙ ap new (sym same) ∙ found)), omega arith), subst (λ (x : ℕ). IsNamed (errands_in robots x) c n i) (ap (λ (o : Option ℕ). unwrap_or o q) (sym put ∙ ap new (sym same) ∙ found)) (subst (λ (x : ℕ). IsNamed (errands_in robots r) c x i) (sym same) (here (errands_in robots r) c i e at own))))
        | inr other ↦ (let old = entered.only n q (sym (kept n (λ x. other (sym x))) ∙ found) in (old.0, (later q old.0 old.1.0, old.1.1)))
      ];
    } where
      later : (q j : ℕ) → Precedes q j r i → Precedes q j r (i + 1)
      later q j (inl less) = inl less
      later q j (inr here) = inr (here.0, omega (arith, here.1))

      stays : (q n : ℕ) → seen n ≡ Some q → new n ≡ Some q
      stays q n known = kept n (λ same. cc (known, fresh, ap seen same)) ∙ known

      by_place : (q j n : ℕ) → Precedes q j r (i + 1) → IsNamed (errands_in robots q) c n j → new n ≡ Some q
      by_place q j n (inl less) h = stays q n (entered.each q j n (inl less) h)
      by_place q j n (inr before) h = elim (cases_eq j i) [
        | inl same ↦ ap new (number_here (errands_in robots r) c i e at n (subst (λ (x : ℕ). IsNamed (errands_in robots x) c n i) before.0 (subst (λ (x : ℕ). IsNamed (errands_in robots q) c n x) same h))) ∙ put ∙ ap (λ (x : ℕ). Some x) (sym before.0)
        | inr other ↦ stays q n (entered.each q j n (inr (before.0, omega (arith, before.1, other))) h)
      ]

    pub entered_same : (e.client ≡ c → ⊥) → AreEntered robots c r (i + 1) seen
    entered_same foreign = record {
      each = by_place;
      only = λ n q found. let old = entered.only n q found in (old.0, (later q old.0 old.1.0, old.1.1));
    } where
      later : (q j : ℕ) → Precedes q j r i → Precedes q j r (i + 1)
      later q j (inl less) = inl less
      later q j (inr here) = inr (here.0, omega (arith, here.1))

      by_place : (q j n : ℕ) → Precedes q j r (i + 1) → IsNamed (errands_in robots q) c n j → seen n ≡ Some q
      by_place q j n (inl less) h = entered.each q j n (inl less) h
      by_place q j n (inr before) h = elim (cases_eq j i) [
        | inl same ↦ absurd (foreign (client_here (errands_in robots r) c i e at n (subst (λ (x : ℕ). IsNamed (errands_in robots x) c n i) before.0 (subst (λ (x : ℕ). IsNamed (errands_in robots q) c n x) same h))))
        | inr other ↦ entered.each q j n (inr (before.0, omega (arith, before.1, other))) h
      ]

    -- a number that stands here was entered before
    pub clash : e.client ≡ c → (q : ℕ) → seen e.number ≡ Some q → AreClientNamesInOrder robots c → ⊥
    clash own q known fine = let old = entered.only e.number q known in by (old.0) old.1.0 old.1.1 where
      by : (j : ℕ) → Precedes q j r i → IsNamed (errands_in robots q) c e.number j → ⊥
      by j (inl less) h = absurd (omega (arith, less, fine.apart q r j i e.number h (here (errands_in robots r) c i e at own)))
      by j (inr before) h = absurd (omega (arith, fine.rising r j i e.number e.number before.1 (subst (λ (x : ℕ). IsNamed (errands_in robots x) c e.number j) before.0 h) (here (errands_in robots r) c i e at own)))

  -- the robot's last errand is after it
  pub entered_next : length (errands_in robots r) ≤ i → AreEntered robots c (r + 1) 0 seen
  entered_next le = record {
    each = by_place;
    only = λ n q found. let old = entered.only n q found in (old.0, (later q old.0 old.1.0, old.1.1));
  } where
    later : (q j : ℕ) → Precedes q j r i → Precedes q j (r + 1) 0
    later q j (inl less) = inl (omega (arith, less))
    later q j (inr here) = inl (omega (arith, here.0))

    by_place : (q j n : ℕ) → Precedes q j (r + 1) 0 → IsNamed (errands_in robots q) c n j → seen n ≡ Some q
    by_place q j n (inl less) h = elim (cases_eq q r) [
      | inl same ↦ entered.each q j n (inr (same, omega (arith, get-within (errands_in robots q) j h.errand h.stands, ap (λ (x : ℕ). length (errands_in robots x)) same, le))) h
      | inr other ↦ entered.each q j n (inl (omega (arith, less, other))) h
    ]
    by_place q j n (inr before) h = absurd (omega (arith, before.1))

-- ---- robots

pub errands_at_robot : {A : Type 0} (robots : List (RobotState A)) (r : ℕ) (d : RobotState A) → r < length robots → (get_or robots r d).errands ≡ errands_in robots r
errands_at_robot [] r d less = absurd (omega (arith, less))
errands_at_robot (y ∷ robots) zero d less = refl
errands_at_robot (y ∷ robots) (suc r) d less = errands_at_robot robots r d (omega (arith, less))

pub none_past : {A : Type 0} (robots : List (RobotState A)) (r : ℕ) → length robots ≤ r → errands_in robots r ≡ []
none_past [] r le = refl
none_past (y ∷ robots) zero le = absurd (omega (arith, le))
none_past (y ∷ robots) (suc r) le = none_past robots r (omega (arith, le))

no_place : (errands : List Errand) (c n i : ℕ) → errands ≡ [] → IsNamed errands c n i → ⊥
no_place errands c n i e h = absurd (omega (arith, get-within errands i h.errand h.stands, ap length e))

-- all robots were entered, and each one's numbers rise
pub names_all : {A : Type 0} (robots : List (RobotState A)) (c r : ℕ) (seen : ℕ → Option ℕ) → length robots ≤ r → AreEntered robots c r 0 seen
    → ((q : ℕ) → q < r → AreRising c (errands_in robots q)) → AreClientNamesInOrder robots c
names_all robots c r seen le entered rising = record {
  apart = λ p q i j n a b. ap (λ (o : Option ℕ). unwrap_or o 0) (sym (found p i n a) ∙ found q j n b);
  rising = λ q. elim (cases_lt q r) [
    | inl less ↦ rising q less
    | inr more ↦ λ i j n l less a b. absurd (no_place (errands_in robots q) c n i (none_past robots q (omega (arith, more, le))) a)
  ];
} where
  found : (q j n : ℕ) → IsNamed (errands_in robots q) c n j → seen n ≡ Some q
  found q j n h = elim (cases_lt q r) [
    | inl less ↦ entered.each q j n (inl less) h
    | inr more ↦ absurd (no_place (errands_in robots q) c n j (none_past robots q (omega (arith, more, le))) h)
  ]

-- another key is not equal
pub is_other : (k q : ℕ) → (k ≡ q → ⊥) → is_eq (nat_cmp k q) ≡ false
is_other k q ne = rw (ne_eqb k q ne) (elim (ltb k q) as (λ v. is_eq (cond v Less (cond false Equal Greater)) ≡ false) [ true ↦ refl | false ↦ refl ])
