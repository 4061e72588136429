-- Farewells that are called one by one.
use Rattle.std.proofs.Common.{◌≡◌, ℕ, zero, suc, ◌+◌, ◌<◌, ◌≤◌, List, [], ◌∷◌, ◌++◌, length, get_or, map, cond, Bool, true, false, Option, None, sym, refl, ap, ◌∙◌, subst, arith, inl, inr}
use Rattle.std.specs.Prelude.{slice_set, slice_index, slice_index_or, All}
use Rattle.std.specs.List.{flat_map, range_with_len}
use Rattle.std.specs.Option.{option_map}
use Rattle.std.proofs.lemmas.List.{append-nil, get_or-set_same, get_or-set_other, get_or-map, map-set, length-set, length_push, get_or_push}
use Rattle.std.proofs.Math.ListN.{get_or-append}
use Rattle.std.proofs.lemmas.List.Elements.{All-nil, All-append}
use Rattle.std.proofs.lemmas.Bool.{cases_eq, cases_Bool}
use Rattle.fleet_hooks.specs.declared.law.StampLaw.{StampLaw}
use Rattle.fleet_history.specs.Legal.{robot_if}
use Rattle.fleet_history.proofs.Legal.{All-single}
use Rattle.fleet_state.proofs.Ranges.{flat_map-range_more}
use Rattle.fleet_core.specs.Hooks.{without_all, DoRise}

abbrev pub spare_law : List (Option StampLaw) → ℕ → Option StampLaw
spare_law spare k = slice_index_or spare k None

-- the law of a farewell that is read
pub spare-is : {X : Type 0} (f : X → StampLaw) (xs : List (Option X)) (r : ℕ) (x : Option X) → r < length xs → x ≡ get_or xs r x → slice_index_or (map (λ o. option_map f o) xs) r None ≡ option_map f x
spare-is f xs r x within is = get_or-map (λ o. option_map f o) xs r x None within ∙ ap (λ o. option_map f o) (sym is)

-- one more robot said farewell
pub spent-before : (spare spare₀ : List (Option StampLaw)) (p : ℕ → Bool) (r : ℕ) → r < length spare → p r ≡ true →
    ((k : ℕ) → k < r → spare_law spare k ≡ cond (p k) None (spare_law spare₀ k)) →
    (k : ℕ) → k < r + 1 → spare_law (slice_set spare r None) k ≡ cond (p k) None (spare_law spare₀ k)
spent-before spare spare₀ p r inside left inv k l =
    elim (cases_eq r k) [
      | inl e ↦ subst (λ k. spare_law (slice_set spare r None) k ≡ cond (p k) None (spare_law spare₀ k)) e (get_or-set_same spare r None None inside ∙ rw left refl)
      | inr ne ↦ get_or-set_other spare r k None None (λ e. ne (sym e)) ∙ inv k (omega arith)
    ]

pub spent-behind : (spare spare₀ : List (Option StampLaw)) (r : ℕ) → ((k : ℕ) → r ≤ k → spare_law spare k ≡ spare_law spare₀ k) →
    (k : ℕ) → r + 1 ≤ k → spare_law (slice_set spare r None) k ≡ spare_law spare₀ k
spent-behind spare spare₀ r inv k l = get_or-set_other spare r k None None (λ e. omega arith) ∙ inv k (omega arith)

-- one more robot stays
pub unspent-before : (spare spare₀ : List (Option StampLaw)) (p : ℕ → Bool) (r : ℕ) → p r ≡ false →
    ((k : ℕ) → k < r → spare_law spare k ≡ cond (p k) None (spare_law spare₀ k)) → ((k : ℕ) → r ≤ k → spare_law spare k ≡ spare_law spare₀ k) →
    (k : ℕ) → k < r + 1 → spare_law spare k ≡ cond (p k) None (spare_law spare₀ k)
unspent-before spare spare₀ p r stays inv behind k l =
    elim (cases_eq r k) [
      | inl e ↦ subst (λ k. spare_law spare k ≡ cond (p k) None (spare_law spare₀ k)) e (behind r (omega arith) ∙ rw stays refl)
      | inr ne ↦ inv k (omega arith)
    ]

-- ---- several farewells

-- one more is spent
pub without-more : (rs : List ℕ) (r : ℕ) (spare : List (Option StampLaw)) → without_all (rs ++ r ∷ []) spare ≡ slice_set (without_all rs spare) r None
without-more [] r spare = refl
without-more (x ∷ rs) r spare = without-more rs r (slice_set spare x None)

pub length-without : (rs : List ℕ) (spare : List (Option StampLaw)) → length (without_all rs spare) ≡ length spare
length-without [] spare = refl
length-without (r ∷ rs) spare = length-without rs (slice_set spare r None) ∙ length-set spare r None

-- who is not among them keeps its own
pub without-other : (rs : List ℕ) (k : ℕ) (spare : List (Option StampLaw)) → ((i : ℕ) → i < length rs → (slice_index rs i ≡ k → ⊥)) → spare_law (without_all rs spare) k ≡ spare_law spare k
without-other [] k spare others = refl
without-other (r ∷ rs) k spare others =
    without-other rs k (slice_set spare r None) (λ i l. others (suc i) (omega arith)) ∙ get_or-set_other spare r k None None (λ e. others 0 (omega arith) (sym e))

-- those who leave, by number
abbrev pub leavers_to : (ℕ → Bool) → ℕ → List ℕ
leavers_to p n = flat_map (λ r. robot_if (p r) r) (range_with_len 0 n)

leavers-more : (p : ℕ → Bool) (n : ℕ) → leavers_to p (n + 1) ≡ leavers_to p n ++ robot_if (p n) n
leavers-more p n = flat_map-range_more (λ r. robot_if (p r) r) n

-- what holds of one more robot's list holds of that which is made of it
one_more : (P : ℕ → List ℕ → Type 0) (p : ℕ → Bool) (n : ℕ) → P (n + 1) (leavers_to p n ++ robot_if (p n) n) → P (suc n) (leavers_to p (suc n))
one_more P p n x =
    let s : n + 1 ≡ suc n = omega arith in
    subst (λ k. P k (leavers_to p k)) s (subst (P (n + 1)) (sym (leavers-more p n)) x)

-- each of them is one of the robots, and leaves
pub leavers-are : (p : ℕ → Bool) (n : ℕ) → All (λ r. (r < n) × (p r ≡ true)) (leavers_to p n)
leavers-are p zero = All-nil (λ r. (r < 0) × (p r ≡ true))
leavers-are p (suc n) =
    one_more (λ k rs. All (λ r. (r < k) × (p r ≡ true)) rs) p n
    (All-append (λ r. (r < n + 1) × (p r ≡ true)) (leavers_to p n) (robot_if (p n) n)
    (λ i d l. let x = leavers-are p n i d l in (omega (arith, x.0), x.1))
    (elim (cases_Bool (p n)) [
      | inl e ↦ rw e (All-single (λ r. (r < n + 1) × (p r ≡ true)) n (omega arith, e))
      | inr e ↦ rw e (All-nil (λ r. (r < n + 1) × (p r ≡ true)))
    ]))

rise-more : (rs : List ℕ) (n : ℕ) → DoRise rs → ((i : ℕ) → i < length rs → slice_index rs i < n) → DoRise (rs ++ n ∷ [])
rise-more rs n rise below i j l m =
    let total = length_push rs n in
    let front : slice_index (rs ++ n ∷ []) i ≡ slice_index rs i = get_or-append rs (n ∷ []) 0 i (omega arith) in
    elim (cases_eq j (length rs)) [
      | inl e ↦ (let last : slice_index (rs ++ n ∷ []) j ≡ n = get_or_push rs n 0 j (sym e) in omega (arith, below i (omega arith)))
      | inr ne ↦ (let inner : slice_index (rs ++ n ∷ []) j ≡ slice_index rs j = get_or-append rs (n ∷ []) 0 j (omega (arith, ne)) in omega (arith, rise i j l (omega (arith, ne))))
    ]

pub leavers-rise : (p : ℕ → Bool) (n : ℕ) → DoRise (leavers_to p n)
leavers-rise p zero = λ i j l m. absurd (omega arith)
leavers-rise p (suc n) =
    one_more (λ k rs. DoRise rs) p n
    (elim (cases_Bool (p n)) [
      | inl e ↦ rw e (rise-more (leavers_to p n) n (leavers-rise p n) (λ i l. (leavers-are p n i 0 l).0))
      | inr e ↦ rw (e, append-nil (leavers_to p n)) (leavers-rise p n)
    ])

abbrev AreSpent : (ℕ → Bool) → List (Option StampLaw) → ℕ → List ℕ → Type 0
AreSpent p spare n rs = n ≤ length spare → (k : ℕ) → k < n → spare_law (without_all rs spare) k ≡ cond (p k) None (spare_law spare k)

-- exactly theirs are spent
pub leavers-spent : (p : ℕ → Bool) (spare : List (Option StampLaw)) (n : ℕ) → AreSpent p spare n (leavers_to p n)
leavers-spent p spare zero = λ few k l. absurd (omega arith)
leavers-spent p spare (suc n) =
    one_more (AreSpent p spare) p n
    (λ few k l. elim (cases_Bool (p n)) [
      | inl e ↦ rw (e, without-more (leavers_to p n) n spare)
          (spent-before (without_all (leavers_to p n) spare) spare p n (omega (arith, length-without (leavers_to p n) spare)) e (leavers-spent p spare n (omega arith)) k l)
      | inr e ↦ rw (e, append-nil (leavers_to p n))
          (unspent-before (without_all (leavers_to p n) spare) spare p n e (leavers-spent p spare n (omega arith)) (λ j m. without-other (leavers_to p n) j spare (λ i q at. omega (arith, (leavers-are p n i 0 q).0))) k l)
    ])

-- one farewell is taken out
pub spare-set : {X : Type 0} (law : X → StampLaw) (xs : List (Option X)) (i : ℕ) (o : Option X) → o ≡ None →
    map (λ f. option_map law f) (slice_set xs i o) ≡ slice_set (map (λ f. option_map law f) xs) i None
spare-set law xs i o e = rw e (map-set (λ f. option_map law f) xs i None)
