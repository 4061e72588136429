-- What a search ahead puts in a cache.
use Rattle.std.proofs.Common.{◌≡◌, ℕ, ◌+◌, ◌<◌, ◌≤◌, ◌⊎◌, inl, inr, List, [], ◌∷◌, ◌++◌, length, get_or, slice_index, refl, sym, ap, subst, ◌∙◌, arith}
use Rattle.std.specs.List.{All, Contains}
use Rattle.std.proofs.lemmas.Bool.{cases_eq}
use Rattle.std.proofs.lemmas.List.{get_or_default, length_push}
use Rattle.std.proofs.lemmas.List.Elements.{All-contains, All-weaker}
use Rattle.std.proofs.Math.ListN.{get_or-append}
use Rattle.std.proofs.Math.Seq.{get_or-append_seam}
use Rattle.fleet_grid.specs.Floor.{Floor}
use Rattle.fleet_field.specs.Field.{Aim, aim_of, IsField}
use Rattle.fleet_field.specs.Several.{AreFields}
use Rattle.fleet_field.specs.FieldCache.{HasKept, IsFieldOf}
use Rattle.fleet_field.specs.inside.Uses.{IsOneOf}
use Rattle.fleet_field.proofs.Uses.{each_field, fields_count}

module _ (m : Floor) (goals : List ℕ) where
  -- a field that was searched is that of one of the goals
  pub made_of : (missing : List ℕ) (fields : List Aim) → AreFields m missing fields → ((i : ℕ) → i < length missing → IsOneOf goals (slice_index missing i)) → (field : Aim) → Contains fields field → IsFieldOf m goals field
  made_of missing fields made only field c =
      let right : IsField m (slice_index missing c.0) (get_or fields c.0 field) = each_field m missing fields made c.0 field c.1 in
      let at : IsField m (slice_index missing c.0) field = subst (IsField m (slice_index missing c.0)) c.2 right in
      let one = only c.0 (omega (arith, c.1, fields_count m missing fields made)) in
      (one.0, one.1, subst (λ (x : ℕ). IsField m x field) (sym one.2) at)

  pub ahead_only : (fields old mid new : List Aim) → ((field : Aim) → Contains fields field → IsFieldOf m goals field) → All (Contains old) mid
      → All (λ (f : Aim). Contains fields f ⊎ Contains mid f) new → All (λ (f : Aim). IsFieldOf m goals f ⊎ Contains old f) new
  ahead_only fields old mid new made among put =
      All-weaker (λ (f : Aim). Contains fields f ⊎ Contains mid f) (λ (f : Aim). IsFieldOf m goals f ⊎ Contains old f)
      (λ f p. elim p [ inl c ↦ inl (made f c) | inr c ↦ inr (All-contains (Contains old) mid f among c) ]) new put

  pub ahead_keeps : (old new : List Aim) → All (λ (f : Aim). IsFieldOf m goals f ⊎ Contains old f) new → All (λ (f : Aim). IsField m f.goal f) old → All (λ (f : Aim). IsField m f.goal f) new
  ahead_keeps old new only keeps =
      All-weaker (λ (f : Aim). IsFieldOf m goals f ⊎ Contains old f) (λ (f : Aim). IsField m f.goal f)
      (λ f p. elim p [
        | inl c ↦ subst (λ (x : ℕ). IsField m x f) (sym c.2.goal) c.2
        | inr c ↦ All-contains (λ (f : Aim). IsField m f.goal f) old f keeps c
      ]) new only

-- a kept field that was found, and one goal more that has one
pub kept_at : (kept : List Aim) (at aimed : ℕ) → at < length kept → ((field : Aim) → field ≡ get_or kept at field → field.goal ≡ aimed) → HasKept kept aimed
kept_at kept at aimed less goal =
    let f = get_or kept at (aim_of 0 []) in
    let e : get_or kept at f ≡ f = get_or_default kept at f (aim_of 0 []) less in
    (f, (at, less, e), goal f (sym e))

pub kept_more : (goals : List ℕ) (kept : List Aim) (n : ℕ) → ((i : ℕ) → i < n → HasKept kept (slice_index goals i)) → HasKept kept (slice_index goals n) → (i : ℕ) → i < n + 1 → HasKept kept (slice_index goals i)
kept_more goals kept n each here i below = elim (cases_eq i n) [
  | inl is ↦ subst (λ (x : ℕ). HasKept kept (slice_index goals x)) (sym is) here
  | inr ne ↦ each i (omega (arith, below, ne))
]

-- what is true of each number is true of each with one more
pub each_pushed : (P : ℕ → Type 0) (xs : List ℕ) (x : ℕ) → ((i : ℕ) → i < length xs → P (slice_index xs i)) → P x → (i : ℕ) → i < length (xs ++ x ∷ []) → P (slice_index (xs ++ x ∷ []) i)
each_pushed P xs x each here i below = elim (cases_eq i (length xs)) [
  | inl is ↦ subst P (sym (ap (slice_index (xs ++ x ∷ [])) is ∙ get_or-append_seam xs x [] 0)) here
  | inr ne ↦ (
      let inside : i < length xs = omega (arith, below, ne, length_push xs x) in
      subst P (sym (get_or-append xs (x ∷ []) 0 i inside)) (each i inside))
]

-- one missing goal more
pub missing_more : (goals missing : List ℕ) (n : ℕ) → n < length goals → ((i : ℕ) → i < length missing → IsOneOf goals (slice_index missing i)) → (i : ℕ) → i < length (missing ++ slice_index goals n ∷ []) → IsOneOf goals (slice_index (missing ++ slice_index goals n ∷ []) i)
missing_more goals missing n less only = each_pushed (IsOneOf goals) missing (slice_index goals n) only (n, less, refl)

-- the place of the field of a goal, looked for from the front
module _ (items kept : List Aim) (same : items ≡ kept) (aimed i : ℕ) where
  pub place_found : (x : Aim) → i < length items → x ≡ get_or items i x → x.goal ≡ aimed → (i < length kept) × ((field : Aim) → field ≡ get_or kept i field → field.goal ≡ aimed)
  place_found x less at is =
      let inside : i < length kept = subst (λ (xs : List Aim). i < length xs) same less in
      let here : x ≡ get_or kept i x = at ∙ ap (λ (xs : List Aim). get_or xs i x) same in
      (inside, λ field e. ap (λ (f : Aim). f.goal) (e ∙ (get_or_default kept i field x inside ∙ sym here)) ∙ is)

  pub place_more : (x : Aim) → i < length items → x ≡ get_or items i x → (x.goal ≡ aimed → ⊥) → ((k : ℕ) → k < i → (field : Aim) → get_or kept k field ≡ field → field.goal ≡ aimed → ⊥)
      → (k : ℕ) → k < i + 1 → (field : Aim) → get_or kept k field ≡ field → field.goal ≡ aimed → ⊥
  place_more x less at off before k below field e is = elim (cases_eq k i) [
    | inl ki ↦ (
        let inside : i < length kept = subst (λ (xs : List Aim). i < length xs) same less in
        let here : get_or kept i x ≡ x = sym (at ∙ ap (λ (xs : List Aim). get_or xs i x) same) in
        let f : field ≡ x = sym e ∙ (ap (λ (n : ℕ). get_or kept n field) ki ∙ (get_or_default kept i field x inside ∙ here)) in
        off (ap (λ (f : Aim). f.goal) (sym f) ∙ is))
    | inr ne ↦ before k (omega (arith, below, ne)) field e is
  ]

pub place_none : (kept : List Aim) (aimed i : ℕ) → length kept ≤ i → ((k : ℕ) → k < i → (field : Aim) → get_or kept k field ≡ field → field.goal ≡ aimed → ⊥) → HasKept kept aimed → ⊥
place_none kept aimed i past before h = let k = h.1 in before k.0 (let less = k.1 in omega (arith, less, past)) h.0 k.2 h.2
