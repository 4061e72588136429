-- Fields of goals that stand first in a queue.
use Rattle.std.proofs.Common.{◌≡◌, ℕ, zero, suc, ◌+◌, ◌<◌, ◌≤◌, ◌⊎◌, inl, inr, List, [], ◌∷◌, ◌++◌, length, take, get_or, slice_index, Option, Some, None, IsSome, OnSome, IfNone, MatchOption, true, rules, refl, sym, ap, subst, ◌∙◌, arith}
use Rattle.std.specs.List.{Contains, remove}
use Rattle.std.specs.Option.{is_some}
use Rattle.std.proofs.lemmas.Bool.{cases_eq}
use Rattle.std.proofs.lemmas.List.Elements.{Contains-push_cases}
use Rattle.fleet_grid.specs.Floor.{Floor}
use Rattle.fleet_field.specs.Field.{Aim, IsField, aim_of}
use Rattle.fleet_field.specs.Several.{AreFields}
use Rattle.fleet_field.specs.FieldCache.{HasKept, AreKept}
use Rattle.fleet_field.specs.inside.Sorted.{AreSorted}
use Rattle.fleet_field.specs.inside.Uses.{IsOneOf}
use Rattle.fleet_field.proofs.Ahead.{kept_at, missing_more, each_pushed}
use Rattle.fleet_field.proofs.Uses.{each_field, fields_count}

-- one of the fields is that of the goal
abbrev HasIn : List Aim → ℕ → Type 0
HasIn [] aimed = ⊥
HasIn (x ∷ xs) aimed = (x.goal ≡ aimed) ⊎ HasIn xs aimed

in_kept : (xs : List Aim) (aimed : ℕ) → HasIn xs aimed → HasKept xs aimed
in_kept [] aimed h = absurd h
in_kept (x ∷ xs) aimed (inl e) = (x, (0, omega arith, refl), e)
in_kept (x ∷ xs) aimed (inr h) = let r = in_kept xs aimed h in (r.0, (suc r.1.0, (let less = r.1.1 in omega (arith, less)), r.1.2), r.2)

at_in : (xs : List Aim) (aimed : ℕ) (f : Aim) (k : ℕ) → k < length xs → get_or xs k f ≡ f → f.goal ≡ aimed → HasIn xs aimed
at_in [] aimed f k less e g = absurd (omega (arith, less))
at_in (x ∷ xs) aimed f zero less e g = inl (ap (λ (y : Aim). y.goal) e ∙ g)
at_in (x ∷ xs) aimed f (suc k) less e g = inr (at_in xs aimed f k (omega (arith, less)) e g)

kept_in : (xs : List Aim) (aimed : ℕ) → HasKept xs aimed → HasIn xs aimed
kept_in xs aimed h = at_in xs aimed h.0 h.1.0 h.1.1 h.1.2 h.2

longer : (xs : List Aim) (n m aimed : ℕ) → n ≤ m → HasIn (take n xs) aimed → HasIn (take m xs) aimed
longer [] zero m aimed le h = absurd h
longer [] (suc n) m aimed le h = absurd h
longer (x ∷ xs) zero m aimed le h = absurd h
longer (x ∷ xs) (suc n) zero aimed le h = absurd (omega (arith, le))
longer (x ∷ xs) (suc n) (suc m) aimed le (inl e) = inl e
longer (x ∷ xs) (suc n) (suc m) aimed le (inr h) = inr (longer xs n m aimed (omega (arith, le)) h)

part_in : (xs : List Aim) (n aimed : ℕ) → HasIn (take n xs) aimed → HasIn xs aimed
part_in [] zero aimed h = absurd h
part_in [] (suc n) aimed h = absurd h
part_in (x ∷ xs) zero aimed h = absurd h
part_in (x ∷ xs) (suc n) aimed (inl e) = inl e
part_in (x ∷ xs) (suc n) aimed (inr h) = inr (part_in xs n aimed h)

whole_in : (xs : List Aim) (aimed : ℕ) → HasIn xs aimed → HasIn (take (length xs) xs) aimed
whole_in [] aimed h = absurd h
whole_in (x ∷ xs) aimed (inl e) = inl e
whole_in (x ∷ xs) aimed (inr h) = inr (whole_in xs aimed h)

without_in : (xs : List Aim) (p n goal other : ℕ) → p < length xs → ((f : Aim) → f ≡ get_or xs p f → f.goal ≡ goal) → HasIn (take n xs) other → (other ≡ goal) ⊎ HasIn (take n (remove xs p)) other
without_in [] p n goal other less of h = absurd (omega (arith, less))
without_in (x ∷ xs) zero zero goal other less of h = absurd h
without_in (x ∷ xs) (suc p) zero goal other less of h = absurd h
without_in (x ∷ xs) zero (suc n) goal other less of (inl e) = inl (sym e ∙ of x refl)
without_in (x ∷ xs) zero (suc n) goal other less of (inr h) = inr (longer xs n (suc n) other (omega arith) h)
without_in (x ∷ xs) (suc p) (suc n) goal other less of (inl e) = inr (inl e)
without_in (x ∷ xs) (suc p) (suc n) goal other less of (inr h) = elim (without_in xs p n goal other (omega (arith, less)) of h) [ inl e ↦ inl e | inr r ↦ inr (inr r) ]

-- a field of the goal is taken out: of the others each stands as far to the front as before
pub within_without : (xs : List Aim) (p n goal other : ℕ) → p < length xs → ((f : Aim) → f ≡ get_or xs p f → f.goal ≡ goal) → HasKept (take n xs) other → (other ≡ goal) ⊎ HasKept (take n (remove xs p)) other
within_without xs p n goal other less of h = elim (without_in xs p n goal other less of (kept_in (take n xs) other h)) [ inl e ↦ inl e | inr r ↦ inr (in_kept (take n (remove xs p)) other r) ]

-- one more is put first
pub within_front : (x : Aim) (xs : List Aim) (n other : ℕ) → HasKept (take n xs) other → HasKept (take (n + 1) (x ∷ xs)) other
within_front x xs n other h = subst (λ (k : ℕ). HasKept (take k (x ∷ xs)) other) (next n) (in_kept (take (suc n) (x ∷ xs)) other (inr (kept_in (take n xs) other h)))
  where
    next : (n : ℕ) → suc n ≡ n + 1
    next n = omega arith

pub first_front : (x : Aim) (xs : List Aim) → HasKept (take 1 (x ∷ xs)) x.goal
first_front x xs = in_kept (take 1 (x ∷ xs)) x.goal (inl refl)

pub within_longer : (xs : List Aim) (n m other : ℕ) → n ≤ m → HasKept (take n xs) other → HasKept (take m xs) other
within_longer xs n m other le h = in_kept (take m xs) other (longer xs n m other le (kept_in (take n xs) other h))

-- where each stands at most one further back, all are there
pub kept_through : (old new : List Aim) (other : ℕ) → ((n other : ℕ) → HasKept (take n old) other → HasKept (take (n + 1) new) other) → HasKept old other → HasKept new other
kept_through old new other within h =
    let there = within (length old) other (in_kept (take (length old) old) other (whole_in old other (kept_in old other h))) in
    in_kept new other (part_in new (length old + 1) other (kept_in (take (length old + 1) new) other there))

-- by the clauses of `remove` on a queue of these items
pub left_within : {Q : Type 0} (items : Q → List Aim) (at goal : ℕ) (old new : Q) (taken : Option Aim) → OnSome taken (items new ≡ remove (items old) at) → IfNone taken (new ≡ old) → at < length (items old)
    → ((f : Aim) → f ≡ get_or (items old) at f → f.goal ≡ goal) → (n other : ℕ) → HasKept (take n (items old)) other → (other ≡ goal) ⊎ HasKept (take n (items new)) other
left_within items at goal old new (Some x) less same inside of n other h =
    subst (λ (xs : List Aim). (other ≡ goal) ⊎ HasKept (take n xs) other) (sym less) (within_without (items old) at n goal other inside of h)
left_within items at goal old new None less same inside of n other h = inr (subst (λ (xs : List Aim). HasKept (take n xs) other) (sym (ap items same)) h)

module _ (field : Aim) (rest new : List Aim) (items : new ≡ field ∷ rest) where
  pub front_first : (goal : ℕ) → field.goal ≡ goal → HasKept (take 1 new) goal
  front_first goal is = subst (λ (xs : List Aim). HasKept (take 1 xs) goal) (sym items) (subst (HasKept (take 1 (field ∷ rest))) is (first_front field rest))

  pub front_within : (old : List Aim) (goal : ℕ) → field.goal ≡ goal → ((n other : ℕ) → HasKept (take n old) other → (other ≡ goal) ⊎ HasKept (take n rest) other) → (n other : ℕ) → HasKept (take n old) other → HasKept (take (n + 1) new) other
  front_within old goal is left n other h = elim (left n other h) [
    | inl e ↦ within_longer new 1 (n + 1) other (omega arith) (subst (HasKept (take 1 new)) (sym e) (front_first goal is))
    | inr r ↦ subst (λ (xs : List Aim). HasKept (take (n + 1) xs) other) (sym items) (within_front field rest n other r)
  ]

  pub put_within : (n k d other : ℕ) → k + 1 ≡ d → HasKept (take (n + k) rest) other → HasKept (take (n + d) new) other
  put_within n k d other one h =
      let there : HasKept (take (n + k + 1) new) other = subst (λ (xs : List Aim). HasKept (take (n + k + 1) xs) other) (sym items) (within_front field rest (n + k) other h) in
      subst (λ (j : ℕ). HasKept (take j new) other) (omega (arith, one)) there

  -- of the fields that were to be put each is still to be, or stands among the first
  pub put_there : (k d : ℕ) (fields left : List Aim) (f : Aim) → k + 1 ≡ d → fields ≡ left ++ field ∷ [] → Contains fields f ⊎ HasKept (take k rest) f.goal → Contains left f ⊎ HasKept (take d new) f.goal
  put_there k d fields left f one split (inr h) =
      let here : HasKept (take (0 + k) rest) f.goal = subst (λ (j : ℕ). HasKept (take j rest) f.goal) (omega arith) h in
      inr (subst (λ (j : ℕ). HasKept (take j new) f.goal) (omega arith) (put_within 0 k d f.goal one here))
  put_there k d fields left f one split (inl there) = elim (Contains-push_cases left field f (subst (λ (xs : List Aim). Contains xs f) split there)) [
    | inl r ↦ inl r
    | inr same ↦ inr (within_longer new 1 d f.goal (omega (arith, one)) (front_first f.goal (ap (λ (a : Aim). a.goal) same)))
  ]

pub same_within : (old new : List Aim) → new ≡ old → (n other : ℕ) → HasKept (take n old) other → HasKept (take (n + 1) new) other
same_within old new same n other h = within_longer new n (n + 1) other (omega arith) (subst (λ (xs : List Aim). HasKept (take n xs) other) (sym same) h)

pub no_some : (o : Option Aim) → ((x : Aim) → o ≡ Some x → ⊥) → IsSome o → ⊥
no_some None none some = search (rules, some)
no_some (Some x) none some = none x refl

-- one goal more stands in front
pub within_next : (goals : List ℕ) (j : ℕ) (cur new : List Aim) → ((n other : ℕ) → HasKept (take n cur) other → HasKept (take (n + 1) new) other) → HasKept (take 1 new) (slice_index goals j)
    → ((i : ℕ) → i < j → HasKept (take j cur) (slice_index goals i)) → (i : ℕ) → i < j + 1 → HasKept (take (j + 1) new) (slice_index goals i)
within_next goals j cur new within first before i less = elim (cases_eq i j) [
  | inl is ↦ within_longer new 1 (j + 1) (slice_index goals i) (omega arith) (subst (λ (k : ℕ). HasKept (take 1 new) (slice_index goals k)) (sym is) first)
  | inr ne ↦ within j (slice_index goals i) (before i (omega (arith, less, ne)))
]

-- ---- goals in two lists
pub kept_there : (o : Option ℕ) (kept : List Aim) (aimed : ℕ) → true ≡ is_some o → MatchOption o (HasKept kept aimed → ⊥) (λ at. (at < length kept) × ((f : Aim) → f ≡ get_or kept at f → f.goal ≡ aimed)) → HasKept kept aimed
kept_there None kept aimed some found = absurd (cc some)
kept_there (Some at) kept aimed some found = kept_at kept at aimed found.0 found.1

pub sorted_none : (kept : List Aim) (goals : List ℕ) → AreSorted kept goals 0 [] []
sorted_none kept goals = record {
  each = λ i less. absurd (omega (arith, less));
  has = λ i less. absurd (omega (arith, less));
  only = λ i less. absurd (omega (arith, less));
  few = omega arith;
}

one_at : (xs : List ℕ) (x y k : ℕ) → k < length xs → slice_index xs k ≡ y → IsOneOf (xs ++ x ∷ []) y
one_at [] x y k less e = absurd (omega (arith, less))
one_at (z ∷ xs) x y zero less e = (0, omega arith, e)
one_at (z ∷ xs) x y (suc k) less e = let r = one_at xs x y k (omega (arith, less)) e in (suc r.0, (let l = r.1 in omega (arith, l)), r.2)

one_more : (xs : List ℕ) (x y : ℕ) → IsOneOf xs y → IsOneOf (xs ++ x ∷ []) y
one_more xs x y o = one_at xs x y o.0 o.1 o.2

one_last : (xs : List ℕ) (x : ℕ) → IsOneOf (xs ++ x ∷ []) x
one_last [] x = (0, omega arith, refl)
one_last (z ∷ xs) x = let r = one_last xs x in (suc r.0, (let l = r.1 in omega (arith, l)), r.2)

push_count : (xs : List ℕ) (x : ℕ) → length (xs ++ x ∷ []) ≡ length xs + 1
push_count [] x = omega arith
push_count (z ∷ xs) x = let r = push_count xs x in omega (arith, r)

module _ (kept : List Aim) (goals : List ℕ) (n : ℕ) (found missing : List ℕ) (s : AreSorted kept goals n found missing) where
  each_by : (found2 missing2 : List ℕ) → ((y : ℕ) → IsOneOf found y → IsOneOf found2 y) → ((y : ℕ) → IsOneOf missing y → IsOneOf missing2 y)
      → IsOneOf found2 (slice_index goals n) ⊎ IsOneOf missing2 (slice_index goals n) → (i : ℕ) → i < n + 1 → IsOneOf found2 (slice_index goals i) ⊎ IsOneOf missing2 (slice_index goals i)
  each_by found2 missing2 more also here i less = elim (cases_eq i n) [
    | inl is ↦ subst (λ (k : ℕ). IsOneOf found2 (slice_index goals k) ⊎ IsOneOf missing2 (slice_index goals k)) (sym is) here
    | inr ne ↦ elim (s.each i (omega (arith, less, ne))) [ inl f ↦ inl (more (slice_index goals i) f) | inr m ↦ inr (also (slice_index goals i) m) ]
  ]

  pub sorted_found : HasKept kept (slice_index goals n) → AreSorted kept goals (n + 1) (found ++ slice_index goals n ∷ []) missing
  sorted_found has = record {
    each = each_by (found ++ slice_index goals n ∷ []) missing (one_more found (slice_index goals n)) (λ y o. o) (inl (one_last found (slice_index goals n)));
    has = each_pushed (HasKept kept) found (slice_index goals n) s.has has;
    only = s.only;
    few = (let c = push_count found (slice_index goals n) in let f = s.few in omega (arith, c, f));
  }

  pub sorted_missing : n < length goals → AreSorted kept goals (n + 1) found (missing ++ slice_index goals n ∷ [])
  sorted_missing less = record {
    each = each_by found (missing ++ slice_index goals n ∷ []) (λ y o. o) (one_more missing (slice_index goals n)) (inr (one_last missing (slice_index goals n)));
    has = s.has;
    only = missing_more goals missing n less s.only;
    few = (let c = push_count missing (slice_index goals n) in let f = s.few in omega (arith, c, f));
  }

  pub sorted_there : IsOneOf missing (slice_index goals n) → AreSorted kept goals (n + 1) found missing
  sorted_there one = record {
    each = each_by found missing (λ y o. o) (λ y o. o) (inr one);
    has = s.has;
    only = s.only;
    few = (let f = s.few in omega (arith, f));
  }

-- all goals have a field among the first, where they have place
pub all_placed : (m : Floor) (kept : List Aim) (goals found missing : List ℕ) (fields mid new : List Aim) (place : ℕ) → AreSorted kept goals (length goals) found missing → AreFields m missing fields
    → AreKept found (take (length found) mid) → ((n other : ℕ) → HasKept (take n mid) other → HasKept (take (n + length fields) new) other)
    → ((field : Aim) → Contains fields field → HasKept (take (length fields) new) field.goal) → length goals ≤ place → AreKept goals (take place new)
all_placed m kept goals found missing fields mid new place s made front within first enough i less =
    let count = fields_count m missing fields made in
    let few = s.few in
    elim (s.each i less) [
      | inl f ↦ (
          let at : HasKept (take (length found) mid) (slice_index goals i) = subst (HasKept (take (length found) mid)) f.2 (front f.0 f.1) in
          within_longer new (length found + length fields) place (slice_index goals i) (omega (arith, count, few, enough)) (within (length found) (slice_index goals i) at))
      | inr o ↦ (
          let inside : o.0 < length fields = (let l = o.1 in omega (arith, l, count)) in
          let field : Aim = get_or fields o.0 (aim_of 0 []) in
          let right : IsField m (slice_index missing o.0) field = each_field m missing fields made o.0 (aim_of 0 []) inside in
          let at : HasKept (take (length fields) new) (slice_index goals i) = subst (HasKept (take (length fields) new)) (right.goal ∙ o.2) (first field (contained fields o.0 inside)) in
          within_longer new (length fields) place (slice_index goals i) (omega (arith, count, few, enough)) at)
    ]
  where
    contained : (fields : List Aim) (k : ℕ) → k < length fields → Contains fields (get_or fields k (aim_of 0 []))
    contained [] k less = absurd (omega (arith, less))
    contained (x ∷ xs) zero less = (0, omega arith, refl)
    contained (x ∷ xs) (suc k) less = let r = contained xs k (omega (arith, less)) in (suc r.0, (let l = r.1 in omega (arith, l)), r.2)
