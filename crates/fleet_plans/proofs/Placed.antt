-- What follows from steps that are conflict-free.
use Rattle.std.proofs.Common.{◌≡◌, ℕ, ◌+◌, ◌<◌, List, length, zero, suc, add-one, refl, ap, sym, subst, ◌∙◌, arith}
use Rattle.fleet_grid.specs.Floor.{Floor}
use Rattle.fleet_grid.specs.Step.{IsPlacement, IsConflictFree}
use Rattle.fleet_plans.specs.Valid.{place_at, IsValidPlan}
use Rattle.fleet_plans.specs.Costs.{IsOneFleet}

-- after a conflict-free step the robots are on distinct floor cells
pub placed_after : (m : Floor) (from to : List ℕ) → IsConflictFree m from to → IsPlacement m to
placed_after m from to free = record {
  on_floor = λ r less. free.on_floor r (omega (arith, less, free.same_length));
  distinct = λ i j order inner. free.no_vertex_conflict i j order (omega (arith, inner, free.same_length));
}

-- the placements of a valid plan have as many robots as the first
pub one_fleet : (m : Floor) (places : List (List ℕ)) → IsValidPlan m places → IsOneFleet places
one_fleet m places valid zero less = refl
one_fleet m places valid (suc t) less =
    let step = valid.steps t (omega arith) in
    let here : place_at places (t + 1) ≡ place_at places (suc t) = ap (place_at places) (add-one t) in
    ap (λ (p : List ℕ). length p) (sym here) ∙ (step.same_length ∙ one_fleet m places valid t (omega arith))

-- at each time of a valid plan the robots are on distinct floor cells
pub placed_at : (m : Floor) (places : List (List ℕ)) → IsValidPlan m places → (t : ℕ) → t < length places → IsPlacement m (place_at places t)
placed_at m places valid zero less = valid.starts
placed_at m places valid (suc t) less =
    let here : place_at places (t + 1) ≡ place_at places (suc t) = ap (place_at places) (add-one t) in
    subst (λ (p : List ℕ). IsPlacement m p) here (placed_after m (place_at places t) (place_at places (t + 1)) (valid.steps t (omega arith)))
