-- What several holds, each with its field, leave of a store.
use Rattle.std.proofs.Common.{◌≡◌, ℕ, ◌<◌, ◌⊎◌, inl, inr, List, [], Option, length, get_or, slice_index, Result, Ok, Err, sym, subst, ◌∙◌, arith}
use Rattle.std.specs.Prelude.{IfOk, OnOk, OnErr}
use Rattle.std.specs.List.{Contains}
use Rattle.std.proofs.lemmas.List.Elements.{Contains-get_or}
use Rattle.std.proofs.lemmas.Result.{IfOk-weaker}
use Rattle.fleet_grid.specs.Floor.{Floor}
use Rattle.fleet_field.specs.Field.{Aim, aim_of, IsField}
use Rattle.fleet_field.specs.declared.store.Held.{Held}
use Rattle.fleet_field.specs.Store.{Serves, IsOnce}
use Rattle.fleet_field.specs.Several.{AreFields, AreHeld}
use Rattle.fleet_field.specs.inside.Uses.{HasGoal, HasFieldOf, IsOneOf, IsFilled, AreUsed}
use Rattle.fleet_field.proofs.Uses.{still_there, each_field, fields_count, are_held, all_served}

-- each goal has its field
pub there_with : (goals : List ℕ) (fields : List Aim) (old mid : List (Option (Held Aim))) → IsFilled fields old mid → ((field : Aim) → Contains fields field → HasGoal mid field.goal)
    → ((i : ℕ) → i < length goals → HasGoal old (slice_index goals i) ⊎ HasFieldOf fields (slice_index goals i)) → (i : ℕ) → i < length goals → HasGoal mid (slice_index goals i)
there_with goals fields old mid filled there each i less = elim (each i less) [
  | inl has ↦ still_there fields old mid (slice_index goals i) filled has
  | inr one ↦ subst (HasGoal mid) one.2 (there one.0 one.1)
]

module _ (m : Floor) (goals missing : List ℕ) (fields : List Aim) (old : List (Option (Held Aim))) (made : AreFields m missing fields) where
  -- where each goal that no key shows is among the missing, it has its field
  pub each_with : ((i : ℕ) → i < length goals → HasGoal old (slice_index goals i) ⊎ IsOneOf missing (slice_index goals i))
      → (i : ℕ) → i < length goals → HasGoal old (slice_index goals i) ⊎ HasFieldOf fields (slice_index goals i)
  each_with each i less = elim (each i less) [
    | inl has ↦ inl has
    | inr one ↦ (
        let inside : one.0 < length fields = omega (arith, one.1, fields_count m missing fields made) in
        let right : IsField m (slice_index missing one.0) (get_or fields one.0 (aim_of 0 [])) = each_field m missing fields made one.0 (aim_of 0 []) inside in
        inr (get_or fields one.0 (aim_of 0 []), Contains-get_or fields one.0 (aim_of 0 []) inside, right.goal ∙ one.2))
  ]

  module _ (only : (i : ℕ) → i < length missing → IsOneOf goals (slice_index missing i)) (new : List (Option (Held Aim))) {E : Type 0} where
    pub held_with : {V : Type 0} (keys : V → List ℕ) (r : Result V E) → IfOk r (λ v. AreUsed fields goals old new (keys v)) → IfOk r (λ v. AreHeld goals old (keys v) new)
    held_with keys r used = IfOk-weaker r (λ v. AreUsed fields goals old new (keys v)) (λ v. AreHeld goals old (keys v) new)
        (λ v u. are_held m goals missing fields old u.all new (keys v) made only u.filled u.used u.shown) used

    pub served_with : {V : Type 0} (keys : V → List ℕ) (r : Result V E) → IfOk r (λ v. AreUsed fields goals old new (keys v)) → OnErr r (new ≡ old) → Serves m old → Serves m new
    served_with keys (Ok v) used refused serves = all_served m goals missing fields old used.all new (keys v) made only used.filled used.used used.shown serves
    served_with keys (Err e) used refused serves = subst (Serves m) (sym refused) serves

-- no two keys show one goal afterwards
pub once_with : {V E : Type 0} (goals : List ℕ) (fields : List Aim) (old new : List (Option (Held Aim))) (keys : V → List ℕ) (r : Result V E)
    → IfOk r (λ v. AreUsed fields goals old new (keys v)) → OnErr r (new ≡ old) → IsOnce old → IsOnce new
once_with goals fields old new keys (Ok v) used refused once = used.used.once
once_with goals fields old new keys (Err e) used refused once = subst IsOnce (sym refused) once

pub on_ok : {V E : Type 0} (P : Type 0) (r : Result V E) → P → OnOk r P
on_ok P (Ok v) p = p
on_ok P (Err e) p = tt

pub on_err : {V E : Type 0} (P : Type 0) (r : Result V E) → P → OnErr r P
on_err P (Ok v) p = tt
on_err P (Err e) p = p
