-- Fields in a queue, and their goals beside them.
use Rattle.std.proofs.Common.{◌≡◌, ℕ, zero, suc, ◌+◌, ◌<◌, ◌⊎◌, inl, inr, List, [], ◌∷◌, ◌++◌, length, map, take, get_or, slice_index, Option, Some, None, IsSome, OnSome, rules, refl, sym, ap, subst, ◌∙◌, arith}
use Rattle.std.specs.List.{remove}
use Rattle.std.proofs.lemmas.List.{take-map}
use Rattle.fleet_field.specs.Field.{Aim}
use Rattle.fleet_field.specs.FieldCache.{HasKept}
use Rattle.fleet_field.specs.inside.Queue.{goal_of}
use Rattle.fleet_field.specs.inside.Uses.{IsOneOf}

pub goals_count : (fields : List Aim) → length (map goal_of fields) ≡ length fields
goals_count [] = refl
goals_count (x ∷ xs) = ap suc (goals_count xs)

goal_at : (fields : List Aim) (f : Aim) (k : ℕ) → k < length fields → slice_index (map goal_of fields) k ≡ (get_or fields k f).goal
goal_at [] f k less = absurd (omega (arith, less))
goal_at (x ∷ xs) f zero less = refl
goal_at (x ∷ xs) f (suc k) less = goal_at xs f k (omega (arith, less))

pub goals_without : (fields : List Aim) (at : ℕ) → remove (map goal_of fields) at ≡ map goal_of (remove fields at)
goals_without [] zero = refl
goals_without [] (suc at) = refl
goals_without (x ∷ xs) zero = refl
goals_without (x ∷ xs) (suc at) = ap (λ (ys : List ℕ). x.goal ∷ ys) (goals_without xs at)

left_count : (fields : List Aim) (at : ℕ) → at < length fields → length (remove fields at) + 1 ≡ length fields
left_count [] at less = absurd (omega (arith, less))
left_count (x ∷ xs) zero less = omega arith
left_count (x ∷ xs) (suc at) less = let r = left_count xs at (omega (arith, less)) in omega (arith, r)

-- the goals in two pieces
in_first : (first second : List ℕ) (k : ℕ) → k < length first → slice_index (first ++ second) k ≡ slice_index first k
in_first [] second k less = absurd (omega (arith, less))
in_first (x ∷ xs) second zero less = refl
in_first (x ∷ xs) second (suc k) less = in_first xs second k (omega (arith, less))

in_second : (first second : List ℕ) (k : ℕ) → slice_index (first ++ second) (length first + k) ≡ slice_index second k
in_second [] second k = ap (slice_index second) (zero_more k)
  where
    zero_more : (k : ℕ) → 0 + k ≡ k
    zero_more k = omega arith
in_second (x ∷ xs) second k = ap (slice_index (x ∷ (xs ++ second))) (next (length xs) k) ∙ in_second xs second k
  where
    next : (n k : ℕ) → suc n + k ≡ suc (n + k)
    next n k = omega arith

both_count : (first second : List ℕ) → length (first ++ second) ≡ length first + length second
both_count [] second = omega arith
both_count (x ∷ xs) second = let r = both_count xs second in omega (arith, r)

module _ (fields : List Aim) (goals : List ℕ) (beside : goals ≡ map goal_of fields) (first second : List ℕ) (pieces : first ++ second ≡ goals) (aimed : ℕ) where
  at_goal : (k : ℕ) → k < length goals → slice_index goals k ≡ aimed → (k < length fields) × ((f : Aim) → f ≡ get_or fields k f → f.goal ≡ aimed)
  at_goal k less is =
      let inside : k < length fields = subst (λ (n : ℕ). k < n) (ap length beside ∙ goals_count fields) less in
      (inside, λ f e. ap goal_of e ∙ (sym (goal_at fields f k inside) ∙ (ap (λ (xs : List ℕ). slice_index xs k) (sym beside) ∙ is)))

  pub found_first : (k : ℕ) → k < length first → slice_index first k ≡ aimed → (k < length fields) × ((f : Aim) → f ≡ get_or fields k f → f.goal ≡ aimed)
  found_first k less is =
      let whole : length first + length second ≡ length goals = sym (both_count first second) ∙ ap length pieces in
      at_goal k (omega (arith, less, whole)) (ap (λ (xs : List ℕ). slice_index xs k) (sym pieces) ∙ (in_first first second k less ∙ is))

  pub found_second : (k : ℕ) → k < length second → slice_index second k ≡ aimed → (length first + k < length fields) × ((f : Aim) → f ≡ get_or fields (length first + k) f → f.goal ≡ aimed)
  found_second k less is =
      let whole : length first + length second ≡ length goals = sym (both_count first second) ∙ ap length pieces in
      at_goal (length first + k) (omega (arith, less, whole)) (ap (λ (xs : List ℕ). slice_index xs (length first + k)) (sym pieces) ∙ (in_second first second k ∙ is))

  -- a goal that is in neither piece has no field
  pub found_nowhere : (IsOneOf first aimed → ⊥) → (IsOneOf second aimed → ⊥) → HasKept fields aimed → ⊥
  found_nowhere not_first not_second h =
      let k = h.1.0 in
      let inside : k < length fields = h.1.1 in
      let is : slice_index goals k ≡ aimed = ap (λ (xs : List ℕ). slice_index xs k) beside ∙ (goal_at fields h.0 k inside ∙ (ap goal_of h.1.2 ∙ h.2)) in
      let there : slice_index (first ++ second) k ≡ aimed = ap (λ (xs : List ℕ). slice_index xs k) pieces ∙ is in
      let whole : length first + length second ≡ length fields = sym (both_count first second) ∙ (ap length pieces ∙ (ap length beside ∙ goals_count fields)) in
      elim (split k (length first)) [
        | inl less ↦ not_first (k, less, sym (in_first first second k less) ∙ there)
        | inr past ↦ (let p = past in not_second (p.0, omega (arith, p.1, inside, whole), sym (in_second first second p.0) ∙ (ap (slice_index (first ++ second)) (sym p.1) ∙ there)))
      ]
    where
      split : (k n : ℕ) → (k < n) ⊎ (rest : ℕ) × (k ≡ n + rest)
      split k zero = inr (k, omega arith)
      split zero (suc n) = inl (omega arith)
      split (suc k) (suc n) = elim (split k n) [ inl less ↦ inl (omega (arith, less)) | inr past ↦ inr (past.0, (let e = past.1 in omega (arith, e))) ]

-- the fields but one
pub beside_without : (fields : List Aim) (goals rest : List ℕ) (left : List Aim) (at : ℕ) → goals ≡ map goal_of fields → rest ≡ remove goals at → left ≡ remove fields at → rest ≡ map goal_of left
beside_without fields goals rest left at beside r l = r ∙ (ap (λ (xs : List ℕ). remove xs at) beside ∙ (goals_without fields at ∙ ap (map goal_of) (sym l)))

-- the first fields
pub beside_first : (fields : List Aim) (goals rest : List ℕ) (left : List Aim) (n : ℕ) → goals ≡ map goal_of fields → rest ≡ take n goals → left ≡ take n fields → rest ≡ map goal_of left
beside_first fields goals rest left n beside r l = r ∙ (ap (take n) beside ∙ (take-map goal_of n fields ∙ ap (map goal_of) (sym l)))

pub on_some : {X : Type 0} (o : Option X) (P : Type 0) → IsSome o → OnSome o P → P
on_some None P some p = absurd (search (rules, some))
on_some (Some x) P some p = p
