-- Goals of fields of one's own, and of shared ones, robot by robot.
use Rattle.std.proofs.Common.{◌≡◌, ℕ, zero, suc, ◌<◌, ◌≤◌, ◌⊎◌, inl, inr, List, [], ◌∷◌, length, map, set, get_or, replicate, Option, Some, None, refl, sym, ap, subst, ◌∙◌, arith, rules, slice_index_or}
use Rattle.std.proofs.lemmas.List.{length-map, get_or-map, get_or_past, map-set}
use Rattle.fleet_field.specs.Field.{Aim}
use Rattle.fleet_grid.specs.Floor.{Floor}
use Rattle.fleet_field.specs.Growing.{Growth, IsGrown}
use Rattle.fleet_field.specs.declared.growing.GrowingField.{GrowingField}
use Rattle.fleet_planner.specs.Aims.{goal_in, goals_of as shared_goals, goal as shared_goal}
use Rattle.fleet_planner.specs.Courses.{Courses, goals_of, goal, own_goal, first_of, growth_in, merged, AreOn, AreStill}
use Rattle.fleet_planner.proofs.Fields.{goals_of-at}

-- courses that are still have the same goals
pub still_goals : {old new : Courses} → AreStill old new → goals_of new ≡ goals_of old
still_goals {old = old} {new = new} s =
    ap (λ (own : List (Option ℕ)). merged own (shared_goals new.shared)) s.own ∙ ap (λ (shared : List (Option Aim)). merged (map own_goal old.own) (shared_goals shared)) s.shared

pub merged-length : (own shared : List (Option ℕ)) → length (merged own shared) ≡ length shared
merged-length own [] = refl
merged-length [] (s ∷ shared) = refl
merged-length (o ∷ own) (s ∷ shared) = ap suc (merged-length own shared)

-- there is a goal for each robot
pub goals-length : (c : Courses) → length (goals_of c) ≡ length c.shared
goals-length c = merged-length (map own_goal c.own) (shared_goals c.shared) ∙ length-map c.shared goal_in

pub merged-at : (own shared : List (Option ℕ)) (r : ℕ) → length own ≡ length shared → slice_index_or (merged own shared) r None ≡ first_of (slice_index_or own r None) (slice_index_or shared r None)
merged-at [] [] r e = refl
merged-at (o ∷ own) [] r e = absurd (omega (arith, e))
merged-at [] (s ∷ shared) r e = absurd (omega (arith, e))
merged-at (o ∷ own) (s ∷ shared) zero e = refl
merged-at (o ∷ own) (s ∷ shared) (suc r) e = merged-at own shared r (omega (arith, e))

pub merged-set : (own shared : List (Option ℕ)) (r : ℕ) (o s : Option ℕ) → length own ≡ length shared → merged (set own r o) (set shared r s) ≡ set (merged own shared) r (first_of o s)
merged-set [] [] r o s e = refl
merged-set (x ∷ own) [] r o s e = absurd (omega (arith, e))
merged-set [] (y ∷ shared) r o s e = absurd (omega (arith, e))
merged-set (x ∷ own) (y ∷ shared) zero o s e = refl
merged-set (x ∷ own) (y ∷ shared) (suc r) o s e = ap (λ (rest : List (Option ℕ)). first_of x y ∷ rest) (merged-set own shared r o s (omega (arith, e)))

-- no robot has a goal at first
pub merged-none : (n : ℕ) → merged (map own_goal (replicate n None)) (shared_goals (replicate n None)) ≡ replicate n None
merged-none zero = refl
merged-none (suc n) = ap (λ (rest : List (Option ℕ)). None ∷ rest) (merged-none n)

-- nobody has a field
pub fields-none : (A : Type 0) (n : ℕ) → map (growth_in {A = A}) (replicate n None) ≡ replicate n None
fields-none A zero = refl
fields-none A (suc n) = ap (λ (rest : List (Option Growth)). None ∷ rest) (fields-none A n)

pub none-own : (m : Floor) (n robot : ℕ) (field : Growth) → slice_index_or (replicate n None) robot None ≡ Some field → IsGrown m field
none-own m zero robot field e = search (rules, e)
none-own m (suc n) zero field e = search (rules, e)
none-own m (suc n) (suc robot) field e = none-own m n robot field e

-- one robot's field after another question
module _ {A : Type 0} (own : List (Option (GrowingField A))) (r : ℕ) (x : Option (GrowingField A)) (less : r < length own) (is : x ≡ get_or own r x) where
  pub own-at : slice_index_or (map growth_in own) r None ≡ growth_in x
  own-at = get_or-map growth_in own r x None less ∙ ap growth_in (sym is)

  pub goal-at : (shared : List (Option Aim)) → length own ≡ length shared → goal (record { shared = shared; own = map growth_in own }) r ≡ first_of (own_goal (growth_in x)) (shared_goal shared r)
  goal-at shared same =
      let long : length (map own_goal (map growth_in own)) ≡ length (shared_goals shared) = length-map (map growth_in own) own_goal ∙ (length-map own growth_in ∙ (same ∙ sym (length-map shared goal_in))) in
      let here : r < length (map growth_in own) = omega (arith, less, length-map own growth_in) in
      merged-at (map own_goal (map growth_in own)) (shared_goals shared) r long
      ∙ (ap (λ (o : Option ℕ). first_of o (slice_index_or (shared_goals shared) r None)) (get_or-map own_goal (map growth_in own) r None None here ∙ ap own_goal own-at)
      ∙ ap (λ (s : Option ℕ). first_of (own_goal (growth_in x)) s) (goals_of-at shared r))

same-own : {A : Type 0} (own : List (Option (GrowingField A))) (r : ℕ) (x y : Option (GrowingField A)) → x ≡ get_or own r x → own_goal (growth_in y) ≡ own_goal (growth_in x) → map own_goal (map growth_in (set own r y)) ≡ map own_goal (map growth_in own)
same-own [] r x y e same = refl
same-own (z ∷ own) zero x y e same = ap (λ (o : Option ℕ). o ∷ map own_goal (map growth_in own)) (same ∙ ap (λ (w : Option _). own_goal (growth_in w)) e)
same-own (z ∷ own) (suc r) x y e same = ap (λ (rest : List (Option ℕ)). own_goal (growth_in z) ∷ rest) (same-own own r x y e same)

pub still-set : {A : Type 0} (shared : List (Option Aim)) (own : List (Option (GrowingField A))) (r : ℕ) (x y : Option (GrowingField A)) → x ≡ get_or own r x → own_goal (growth_in y) ≡ own_goal (growth_in x)
    → AreStill (record { shared = shared; own = map growth_in own }) (record { shared = shared; own = map growth_in (set own r y) })
still-set shared own r x y e same = record { shared = refl; own = same-own own r x y e same }

set-cases : {X : Type 0} (xs : List X) (i : ℕ) (x : X) (r : ℕ) (d : X) → (get_or (set xs i x) r d ≡ x) ⊎ (get_or (set xs i x) r d ≡ get_or xs r d)
set-cases [] i x r d = inr refl
set-cases (y ∷ xs) zero x zero d = inl refl
set-cases (y ∷ xs) zero x (suc r) d = inr refl
set-cases (y ∷ xs) (suc i) x zero d = inr refl
set-cases (y ∷ xs) (suc i) x (suc r) d = set-cases xs i x r d

pub on-set : {A : Type 0} (m : Floor) (shared : List (Option Aim)) (own : List (Option (GrowingField A))) (r : ℕ) (y : Option (GrowingField A)) → ((field : Growth) → growth_in y ≡ Some field → IsGrown m field)
    → AreOn m (record { shared = shared; own = map growth_in own }) → AreOn m (record { shared = shared; own = map growth_in (set own r y) })
on-set m shared own r y grown on = record {
  shared = on.shared;
  grown = subst (λ (xs : List (Option Growth)). (k : ℕ) (field : Growth) → slice_index_or xs k None ≡ Some field → IsGrown m field) (sym (map-set growth_in own r y))
      (λ k field e. elim (set-cases (map growth_in own) r (growth_in y) k None) [
        | inl new ↦ grown field (sym new ∙ e)
        | inr old ↦ on.grown k field (sym old ∙ e)
      ]);
}

-- no robot is past the last one
pub goal-past : {A : Type 0} (shared : List (Option Aim)) (own : List (Option (GrowingField A))) (r : ℕ) → length own ≡ length shared → length own ≤ r → goal (record { shared = shared; own = map growth_in own }) r ≡ None
goal-past shared own r same past =
    let c : Courses = record { shared = shared; own = map growth_in own } in
    get_or_past (goals_of c) r None (omega (arith, goals-length c, same, past))
