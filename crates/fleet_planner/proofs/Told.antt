-- Which robots' own fields tell the ways from their cells.
use Rattle.std.proofs.Common.{◌≡◌, ℕ, zero, suc, ◌+◌, ◌<◌, inl, inr, List, [], ◌∷◌, Option, Some, None, IsSome, map, set, length, slice_index, slice_index_or, refl, sym, ap, subst, ◌∙◌, arith}
use Rattle.std.proofs.lemmas.Bool.{cases_lt}
use Rattle.std.proofs.lemmas.List.{length-map, get_or-set_same, map-set}
use Rattle.fleet_grid.specs.Floor.{Floor}
use Rattle.fleet_field.specs.Field.{Aim}
use Rattle.fleet_field.specs.Growing.{Growth}
use Rattle.fleet_field.specs.declared.growing.GrowingField.{GrowingField}
use Rattle.fleet_planner.specs.Aims.{goal_in, goals_of as shared_goals}
use Rattle.fleet_planner.specs.Courses.{goal, growth_in, own_goal, first_of}
use Rattle.fleet_planner.specs.Searched.{IsTold, IsUntold, IsUntoldAt, Lacks}
use Rattle.fleet_planner.proofs.Merged.{merged-at}

-- what holds below a number and at it holds below the next
pub each_more : (P : ℕ → Type 0) (n : ℕ) → ((r : ℕ) → r < n → P r) → P n → (r : ℕ) → r < n + 1 → P r
each_more P n before here r less = elim (cases_lt r n) [
  | inl l ↦ before r l
  | inr l ↦ (let same : n ≡ r = omega (arith, less, l) in subst P same here)
]

goal-own : (own : List (Option Growth)) (r : ℕ) → slice_index_or (map own_goal own) r None ≡ own_goal (slice_index_or own r None)
goal-own [] r = refl
goal-own (x ∷ own) zero = refl
goal-own (x ∷ own) (suc r) = goal-own own r

some_first : (m : Floor) (x : Option Growth) (cell : ℕ) (shared : Option ℕ) → IsUntold m x cell → IsSome (first_of (own_goal x) shared)
some_first m None cell shared u = absurd u
some_first m (Some field) cell shared u = refl

-- a robot whose own field is still to be searched has a goal
pub lacks_by : {A : Type 0} (m : Floor) (shared : List (Option Aim)) (own : List (Option (GrowingField A))) (cells : List ℕ) (r : ℕ) → length own ≡ length shared → IsUntoldAt m (map growth_in own) cells r
    → Lacks m (record { shared = shared; own = map growth_in own }) cells r
lacks_by m shared own cells r same at =
    let fields : List (Option Growth) = map growth_in own in
    let long : length (map own_goal fields) ≡ length (shared_goals shared) = length-map fields own_goal ∙ (length-map own growth_in ∙ (same ∙ sym (length-map shared goal_in))) in
    let is : goal (record { shared = shared; own = fields }) r ≡ first_of (own_goal (slice_index_or fields r None)) (slice_index_or (shared_goals shared) r None)
    = merged-at (map own_goal fields) (shared_goals shared) r long ∙ ap (λ (o : Option ℕ). first_of o (slice_index_or (shared_goals shared) r None)) (goal-own fields r) in
    record { goal = subst IsSome (sym is) (some_first m (slice_index_or fields r None) (slice_index cells r) (slice_index_or (shared_goals shared) r None) at.untold); is = at }

-- what a robot's field tells after it was put in its place
pub told-set : {A : Type 0} (m : Floor) (own : List (Option (GrowingField A))) (r : ℕ) (y : Option (GrowingField A)) (cell : ℕ) → r < length own → IsTold m (growth_in y) cell
    → IsTold m (slice_index_or (map growth_in (set own r y)) r None) cell
told-set m own r y cell less told =
    let inside : r < length (map growth_in own) = omega (arith, less, length-map own growth_in) in
    subst (λ (x : Option Growth). IsTold m x cell) (sym (ap (λ (xs : List (Option Growth)). slice_index_or xs r None) (map-set growth_in own r y) ∙ get_or-set_same (map growth_in own) r (growth_in y) None inside)) told

-- nobody was found
pub nobody : (o : Option ℕ) → ((r : ℕ) → o ≡ Some r → ⊥) → o ≡ None
nobody None none = refl
nobody (Some r) none = absurd (none r refl)
