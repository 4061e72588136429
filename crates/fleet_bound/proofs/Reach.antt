-- The reach of a map is the greatest distance, and a map with few floor cells has a short one.
use Rattle.std.proofs.Common.{◌≡◌, ℕ, zero, suc, ◌<◌, ◌≤◌, ◌⊎◌, inl, inr, List, [], ◌∷◌, length, Option, Some, ap, sym, ◌∙◌, subst, arith}
use Rattle.std.specs.Prelude.{map, unwrap_or}
use Rattle.std.specs.List.{range_with_len}
use Rattle.fleet_grid.specs.Floor.{Floor, IsFloor, IsNeighbour}
use Rattle.fleet_grid.specs.Walk.{Walks, IsDistance}
use Rattle.fleet_grid.specs.Distance.{distance}
use Rattle.fleet_grid.proofs.Forms.{floor_inside}
use Rattle.fleet_grid.proofs.Least.{none_or_some}
use Rattle.fleet_grid.proofs.Shortest.{is_distance, distance_is}
use Rattle.fleet_bound.specs.Reach.{farthest, reach, IsReach}
use Rattle.fleet_bound.proofs.Greatest.{greatest-start, greatest_of-item, greatest_of-met}

-- the ends of a walk with an edge are floor cells
walk_end : (m : Floor) (a b : ℕ) (cs : List ℕ) → IsFloor m a → Walks (IsNeighbour m) a cs b → IsFloor m b
walk_end m a b [] f w = subst (IsFloor m) w f
walk_end m a b (c ∷ cs) f w = walk_end m c b cs w.0.1.to w.1

pub walk_ends : (m : Floor) (a b : ℕ) (cs : List ℕ) → 0 < length cs → Walks (IsNeighbour m) a cs b → IsFloor m a × IsFloor m b
walk_ends m a b [] l w = absurd (omega arith)
walk_ends m a b (c ∷ cs) l w = (w.0.1.from, walk_end m c b cs w.0.1.to w.1)

farthest_item : (m : Floor) (a b : ℕ) → b < length m.letters → unwrap_or (distance m a b) 0 ≤ farthest m a
unfolding farthest
farthest_item m a b l = greatest_of-item (λ b. unwrap_or (distance m a b) 0) 0 (length m.letters) b l

farthest_met : (m : Floor) (a : ℕ) → (farthest m a ≡ 0) ⊎ ((b : ℕ) × IsDistance (IsNeighbour m) a b (farthest m a))
unfolding farthest
farthest_met m a = elim (greatest_of-met (λ b. unwrap_or (distance m a b) 0) 0 (length m.letters)) [
  | inl none ↦ inl none
  | inr met ↦ elim (none_or_some (distance m a met.0)) [
    | inl none ↦ inl (met.2 ∙ ap (λ (o : Option ℕ). unwrap_or o 0) none)
    | inr some ↦ (
        let same : farthest m a ≡ some.0 = met.2 ∙ ap (λ (o : Option ℕ). unwrap_or o 0) some.1 in
        inr (met.0, distance_is m a met.0 (farthest m a) (some.1 ∙ ap (λ (d : ℕ). Some d) (sym same))))
  ]
]

pub reach-positive : (m : Floor) → 1 ≤ reach m
unfolding reach
reach-positive m = greatest-start 1 (map (farthest m) (range_with_len 0 (length m.letters)))

reach_item : (m : Floor) (a : ℕ) → a < length m.letters → farthest m a ≤ reach m
unfolding reach
reach_item m a l = greatest_of-item (farthest m) 1 (length m.letters) a l

reach_met : (m : Floor) → (reach m ≡ 1) ⊎ ((a : ℕ) × (reach m ≡ farthest m a))
unfolding reach
reach_met m = elim (greatest_of-met (farthest m) 1 (length m.letters)) [
  | inl one ↦ inl one
  | inr met ↦ inr (met.0, met.2)
]

pub reach-within : (m : Floor) (a b d : ℕ) → IsDistance (IsNeighbour m) a b d → d ≤ reach m
reach-within m a b zero far = omega arith
reach-within m a b (suc d) far =
    let ends = walk_ends m a b far.walk.0 (omega (arith, far.walk.2)) far.walk.1 in
    let known : distance m a b ≡ Some (suc d) = is_distance m a b (suc d) ends.0 far in
    let item : suc d ≤ farthest m a = omega (arith, farthest_item m a b (floor_inside m b ends.1), ap (λ (o : Option ℕ). unwrap_or o 0) known) in
    omega (arith, item, reach_item m a (floor_inside m a ends.0))

pub reach-is : (m : Floor) → IsReach m (reach m)
reach-is m = record {
  positive = reach-positive m;
  within = reach-within m;
  met = elim (reach_met m) [
    | inl one ↦ inl one
    | inr met ↦ elim (farthest_met m met.0) [
      | inl none ↦ absurd (omega (arith, met.1, none, reach-positive m))
      | inr far ↦ inr (met.0, far.0, subst (IsDistance (IsNeighbour m) met.0 far.0) (sym met.1) far.1)
    ]
  ];
}
