-- The placements of a valid plan: as many robots in each, on cells of the map.
use Rattle.std.proofs.Common.{◌≡◌, ℕ, zero, suc, add-one, ◌+◌, ◌*◌, ◌<◌, ◌≤◌, inl, inr, List, [], length, get_or, slice_index, slice_index_or, All, refl, sym, ap, subst, ◌∙◌, arith}
use Rattle.std.proofs.lemmas.Bool.{cases_eq}
use Rattle.std.proofs.lemmas.List.{get_or_default}
use Rattle.fleet_grid.specs.Floor.{Floor, HasForm, IsFloor}
use Rattle.fleet_grid.specs.Step.{IsPlacement, IsConflictFree}
use Rattle.fleet_grid.proofs.Forms.{floor_inside}
use Rattle.fleet_plans.specs.Valid.{place_at, IsValidPlan}

module _ (m : Floor) (places : List (List ℕ)) (valid : IsValidPlan m places) where
  pub one_fleet : (t : ℕ) → t < length places → length (place_at places t) ≡ length (place_at places 0)
  one_fleet zero less = refl
  one_fleet (suc t) less =
      let step = valid.steps t (omega (arith, less)) in
      let here : place_at places (t + 1) ≡ place_at places (suc t) = ap (place_at places) (add-one t) in
      ap (λ (p : List ℕ). length p) (sym here) ∙ (step.same_length ∙ one_fleet t (omega (arith, less)))

  on_floor : (t r : ℕ) → t < length places → r < length (place_at places t) → IsFloor m (slice_index (place_at places t) r)
  on_floor zero r less known = valid.starts.on_floor r known
  on_floor (suc t) r less known =
      let step = valid.steps t (omega (arith, less)) in
      let here : place_at places (t + 1) ≡ place_at places (suc t) = ap (place_at places) (add-one t) in
      let same = ap (λ (p : List ℕ). length p) here in
      subst (λ (p : List ℕ). IsFloor m (slice_index p r)) here (step.on_floor r (omega (arith, known, same, step.same_length)))

module _ (m : Floor) (form : HasForm m) (places : List (List ℕ)) (valid : IsValidPlan m places) where
  row_inside : (t r : ℕ) → t < length places → r < length (place_at places t) → slice_index (place_at places t) r < m.height * m.width
  row_inside t r less known = let few = floor_inside m (slice_index (place_at places t) r) (on_floor m places valid t r less known) in omega (arith, few, form.covered)

  pub inside : (t r : ℕ) → t < length places → r < length (place_at places t) → slice_index (place_at places t) r < m.width * m.height
  inside t r less known = let few = row_inside t r less known in omega (arith, few)

  pub all_inside : (t : ℕ) → t < length places → All (λ c. c < m.height * m.width) (place_at places t)
  all_inside t less = λ r d known. subst (λ (c : ℕ). c < m.height * m.width) (get_or_default (place_at places t) r 0 d known) (row_inside t r less known)

  pub every_inside : All (λ place. All (λ c. c < m.height * m.width) place) places
  every_inside = λ t d less. subst (λ (place : List ℕ). All (λ c. c < m.height * m.width) place) (get_or_default places t [] d less) (all_inside t less)

pub some_columns : (m : Floor) (c : ℕ) → c < m.width * m.height → 0 < m.width
some_columns m c less = elim (cases_eq m.width 0) [
  | inl none ↦ let empty : c < 0 * m.height = subst (λ (k : ℕ). c < k * m.height) none less in absurd (omega (arith, empty))
  | inr other ↦ omega (arith, other)
]
