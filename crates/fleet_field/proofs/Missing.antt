-- The goals that lack a field, and one more.
use Rattle.std.proofs.Common.{ℕ, ◌+◌, ◌<◌, ◌⊎◌, inl, inr, List, [], ◌∷◌, ◌++◌, length, slice_index, Option, sym, ap, subst, refl, ◌∙◌, arith}
use Rattle.std.proofs.lemmas.Bool.{cases_eq}
use Rattle.std.proofs.lemmas.List.{length_push}
use Rattle.std.proofs.Math.ListN.{get_or-append}
use Rattle.std.proofs.Math.Seq.{get_or-append_seam}
use Rattle.fleet_grid.specs.Floor.{Floor, IsFloor}
use Rattle.fleet_field.specs.Field.{Aim}
use Rattle.fleet_field.specs.declared.store.Held.{Held}
use Rattle.fleet_field.specs.inside.Uses.{HasGoal, IsOneOf}

one_more : (xs : List ℕ) (x a : ℕ) → IsOneOf xs a → IsOneOf (xs ++ x ∷ []) a
one_more xs x a o = (o.0, omega (arith, o.1, length_push xs x), get_or-append xs (x ∷ []) 0 o.0 o.1 ∙ o.2)

one_last : (xs : List ℕ) (x : ℕ) → IsOneOf (xs ++ x ∷ []) x
one_last xs x = (length xs, omega (arith, length_push xs x), get_or-append_seam xs x [] 0)

module _ (held : List (Option (Held Aim))) (goals missing : List ℕ) (n : ℕ) (less : n < length goals)
    (each : (i : ℕ) → i < n → HasGoal held (slice_index goals i) ⊎ IsOneOf missing (slice_index goals i)) where
  pub each_same : HasGoal held (slice_index goals n) ⊎ IsOneOf missing (slice_index goals n) → (i : ℕ) → i < n + 1 → HasGoal held (slice_index goals i) ⊎ IsOneOf missing (slice_index goals i)
  each_same here i below = elim (cases_eq i n) [
    | inl is ↦ subst (λ (x : ℕ). HasGoal held (slice_index goals x) ⊎ IsOneOf missing (slice_index goals x)) (sym is) here
    | inr ne ↦ each i (omega (arith, below, ne))
  ]

  pub each_more : (i : ℕ) → i < n + 1 → HasGoal held (slice_index goals i) ⊎ IsOneOf (missing ++ slice_index goals n ∷ []) (slice_index goals i)
  each_more i below = elim (cases_eq i n) [
    | inl is ↦ inr (subst (λ (x : ℕ). IsOneOf (missing ++ slice_index goals n ∷ []) (slice_index goals x)) (sym is) (one_last missing (slice_index goals n)))
    | inr ne ↦ elim (each i (omega (arith, below, ne))) [ inl has ↦ inl has | inr o ↦ inr (one_more missing (slice_index goals n) (slice_index goals i) o) ]
  ]

  pub only_more : ((i : ℕ) → i < length missing → IsOneOf goals (slice_index missing i)) → (i : ℕ) → i < length (missing ++ slice_index goals n ∷ []) → IsOneOf goals (slice_index (missing ++ slice_index goals n ∷ []) i)
  only_more only i below = elim (cases_eq i (length missing)) [
    | inl is ↦ subst (IsOneOf goals) (sym (ap (slice_index (missing ++ slice_index goals n ∷ [])) is ∙ get_or-append_seam missing (slice_index goals n) [] 0)) (n, less, refl)
    | inr ne ↦ (
        let inside : i < length missing = omega (arith, below, ne, length_push missing (slice_index goals n)) in
        subst (IsOneOf goals) (sym (get_or-append missing (slice_index goals n ∷ []) 0 i inside)) (only i inside))
  ]

pub floor_missing : (m : Floor) (goals missing : List ℕ) → ((i : ℕ) → i < length goals → IsFloor m (slice_index goals i)) → ((i : ℕ) → i < length missing → IsOneOf goals (slice_index missing i))
    → (i : ℕ) → i < length missing → IsFloor m (slice_index missing i)
floor_missing m goals missing floor only i less = let one = only i less in subst (IsFloor m) one.2 (floor one.0 one.1)
