-- Goals in a list beside the fields that are held.
use Rattle.std.proofs.Common.{◌≡◌, ◌≢◌, ℕ, ◌+◌, ◌<◌, ◌≤◌, inl, inr, Bool, true, false, cond, IsTrue, List, length, slice_index, slice_set, Option, Some, None, refl, sym, ap, ◌∙◌, arith, get_or-set_same, get_or-set_other}
use Rattle.std.proofs.Math.ListN.{length-set}
use Rattle.std.proofs.lemmas.Bool.{cases_eq, leb-true}
use Rattle.fleet_field.specs.Field.{Aim}
use Rattle.fleet_field.specs.Store.{shown}
use Rattle.fleet_field.specs.declared.store.Held.{Held}
use Rattle.fleet_field.specs.inside.Uses.{AreGoalsOf, covered}
use Rattle.fleet_field.proofs.Shares.{some_once, none_some}

covered_by : (b : Bool) (capacity goals len key : ℕ) → (IsTrue b → capacity ≤ goals) → len + 1 ≤ cond b capacity 0 → key < capacity → key < goals
covered_by true capacity goals len key enough room less = let e = enough refl in omega (arith, e, less)
covered_by false capacity goals len key enough room less = absurd (omega (arith, room))

pub covered_within : (capacity goals len key : ℕ) → len + 1 ≤ covered capacity goals → key < capacity → key < goals
covered_within capacity goals len key = covered_by _ capacity goals len key (leb-true capacity goals)

module _ (old new : List (Option (Held Aim))) (key : ℕ) (others : (other : ℕ) → other ≢ key → shown new other ≡ shown old other) (goals : List ℕ) (beside : AreGoalsOf old goals) where
  pub goals_same : (was now : Held Aim) → shown old key ≡ Some was → shown new key ≡ Some now → now.field.goal ≡ was.field.goal → AreGoalsOf new goals
  goals_same was now w n same k at e = elim (cases_eq k key) [
    | inl is ↦ (
        let one : now ≡ at = some_once now at (sym n ∙ (ap (shown new) (sym is) ∙ e)) in
        let b = beside k was (ap (shown old) is ∙ w) in
        (b.0, b.1 ∙ (sym same ∙ ap (λ (h : Held Aim). h.field.goal) one)))
    | inr ne ↦ beside k at (sym (others k ne) ∙ e)
  ]

  other_set : (goal k : ℕ) (at : Held Aim) → k ≢ key → shown new k ≡ Some at → (k < length (slice_set goals key goal)) × (slice_index (slice_set goals key goal) k ≡ at.field.goal)
  other_set goal k at ne e =
      let b = beside k at (sym (others k ne) ∙ e) in
      (omega (arith, b.0, length-set goals key goal), get_or-set_other goals key k goal 0 ne ∙ b.1)

  pub goals_put : (goal : ℕ) (now : Held Aim) → shown new key ≡ Some now → goal ≡ now.field.goal → key < length goals → AreGoalsOf new (slice_set goals key goal)
  goals_put goal now n same less k at e = elim (cases_eq k key) [
    | inl is ↦ (
        let one : now ≡ at = some_once now at (sym n ∙ (ap (shown new) (sym is) ∙ e)) in
        (omega (arith, is, less, length-set goals key goal), ap (slice_index (slice_set goals key goal)) is ∙ (get_or-set_same goals key goal 0 less ∙ (same ∙ ap (λ (h : Held Aim). h.field.goal) one))))
    | inr ne ↦ other_set goal k at ne e
  ]

  pub goals_cleared : (free : ℕ) → shown new key ≡ None → AreGoalsOf new (slice_set goals key free)
  goals_cleared free n k at e = elim (cases_eq k key) [
    | inl is ↦ absurd (none_some at (shown new key) n (ap (shown new) (sym is) ∙ e))
    | inr ne ↦ other_set free k at ne e
  ]
