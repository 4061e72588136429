-- Lists that grow by a robot or by a time.
use Rattle.std.proofs.Common.{◌≡◌, ℕ, ◌+◌, ◌-◌, List, [], ◌++◌, map, refl, sym, subst, ◌∙◌}
use Rattle.fleet_grid.specs.Floor.{Floor}
use Rattle.fleet_check.specs.declared.fault.StepFault.{StepFault}
use Rattle.fleet_plans.specs.Valid.{place_at}
use Rattle.fleet_conflicts.specs.declared.conflicts.Conflict.{Conflict}
use Rattle.fleet_conflicts.specs.Conflicts.{OfRobot, OfRobots, OfStep, UpTo, at_time, no_robot, next_robot, no_time, next_time}

module _ (m : Floor) (from to : List ℕ) where
  pub no_robots : (faults : List StepFault) → faults ≡ [] → OfRobots m from to 0 faults
  no_robots faults is = subst (OfRobots m from to 0) (sym is) no_robot

  pub one_robot_more : (r : ℕ) (before after : List StepFault) → OfRobots m from to r before → ((now : List StepFault) × OfRobot m from to r now × (after ≡ before ++ now)) → OfRobots m from to (r + 1) after
  one_robot_more r before after known added = subst (OfRobots m from to (r + 1)) (sym added.2) (next_robot r before added.0 known added.1)

module _ (m : Floor) (places : List (List ℕ)) where
  pub no_times : (conflicts : List Conflict) → conflicts ≡ [] → UpTo m places 0 conflicts
  no_times conflicts is = subst (UpTo m places 0) (sym is) no_time

  pub one_time_more : (time k : ℕ) (from to : List ℕ) (before after : List Conflict) (faults given : List StepFault) → UpTo m places time before → k ≡ time - 1 → from ≡ place_at places k → to ≡ place_at places time
      → OfStep m from to faults → given ≡ faults → after ≡ before ++ map (at_time time) given → UpTo m places (time + 1) after
  one_time_more time k from to before after faults given known earlier left come step same is =
      let at_left = subst (λ (cells : List ℕ). OfStep m cells to faults) (left ∙ ap_place earlier) step in
      let at_both = subst (λ (cells : List ℕ). OfStep m (place_at places (time - 1)) cells faults) come at_left in
      let grown = subst (λ (l : List StepFault). UpTo m places (time + 1) (before ++ map (at_time time) l)) (sym same) (next_time time before faults known at_both) in
      subst (UpTo m places (time + 1)) (sym is) grown
    where
      ap_place : k ≡ time - 1 → place_at places k ≡ place_at places (time - 1)
      ap_place e = subst (λ (t : ℕ). place_at places k ≡ place_at places t) e refl
