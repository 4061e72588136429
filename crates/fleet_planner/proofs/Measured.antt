-- From courses to the goals of a step.
use Rattle.std.proofs.Common.{◌≡◌, ℕ, ◌<◌, ◌↔◌, List, Option, Some, None, MatchOption, IsSome, length, slice_index, refl, sym, subst}
use Rattle.fleet_grid.specs.Floor.{Floor, IsFloor, IsNeighbour}
use Rattle.fleet_grid.specs.Walk.{AreJoined, AreApart, IsDistance}
use Rattle.fleet_grid.specs.Distance.{distance}
use Rattle.fleet_grid.proofs.Shortest.{distance_is, is_distance, no_distance, apart_is}
use Rattle.fleet_grid.specs.Ways.{IsWay, IsLess, AreNearer}
use Rattle.fleet_field.specs.Field.{Aim}
use Rattle.fleet_pibt.specs.Goals.{AreGoals}
use Rattle.fleet_pibt.specs.Order.{wait_of}
use Rattle.fleet_planner.specs.Aims.{goal_in, distance_in, aim_at, AreOn, goal as shared_goal, distance as shared_distance}
use Rattle.fleet_planner.specs.Courses.{Courses, goal, away, way_to}

-- the distance as a function is the least number of edges of a walk
pub measured : (m : Floor) (cell aimed : ℕ) → IsFloor m cell → MatchOption (distance m cell aimed) (AreApart (IsNeighbour m) cell aimed) (IsDistance (IsNeighbour m) cell aimed)
measured m cell aimed floor = by_case (distance m cell aimed) refl
  where
    by_case : (o : Option ℕ) → distance m cell aimed ≡ o → MatchOption o (AreApart (IsNeighbour m) cell aimed) (IsDistance (IsNeighbour m) cell aimed)
    by_case None e = no_distance m cell aimed floor e
    by_case (Some d) e = distance_is m cell aimed d e

-- what measures so is that function
pub measures : (m : Floor) (cell aimed : ℕ) (o : Option ℕ) → IsFloor m cell → MatchOption o (AreApart (IsNeighbour m) cell aimed) (IsDistance (IsNeighbour m) cell aimed) → o ≡ distance m cell aimed
measures m cell aimed None floor apart = sym (apart_is m cell aimed apart)
measures m cell aimed (Some d) floor is = sym (is_distance m cell aimed d floor is)

-- the distances that shared fields show are that function, so the same ways lead nearer
shared-way : (m : Floor) (aims : List (Option Aim)) (robot cell : ℕ) → AreOn m aims → IsFloor m cell → shared_distance aims robot cell ≡ way_to m (shared_goal aims robot) cell
shared-way m aims robot cell on floor = by_case (aim_at aims robot) refl
  where
    by_case : (o : Option Aim) → aim_at aims robot ≡ o → distance_in o cell ≡ way_to m (goal_in o) cell
    by_case None e = refl
    by_case (Some aim) e = measures m cell aim.goal (distance_in (Some aim) cell) floor ((on robot aim e).field.each cell)

pub shared-nearer : (m : Floor) (aims : List (Option Aim)) (robot cell ways : ℕ) → AreOn m aims → AreNearer m (shared_distance aims robot) cell ways → AreNearer m (way_to m (shared_goal aims robot)) cell ways
shared-nearer m aims robot cell ways on near dir w n =
    subst (λ (x : Option ℕ). IsWay ways dir ↔ IsLess x (way_to m (shared_goal aims robot) cell)) (shared-way m aims robot w on n.to)
    (subst (λ (x : Option ℕ). IsWay ways dir ↔ IsLess (shared_distance aims robot w) x) (shared-way m aims robot cell on n.from) (near dir w n))

-- courses give a step its goals and distances, where they are those of the robots that wait, and can be reached
pub are_goals : (m : Floor) (from : List ℕ) (waits : List (Option ℕ)) (aims : Courses)
    → ((r : ℕ) → r < length from → IsSome (goal aims r) ↔ IsSome (wait_of waits r))
    → ((r g : ℕ) → r < length from → goal aims r ≡ Some g → AreJoined (IsNeighbour m) (slice_index from r) g)
    → AreGoals m from waits (goal aims) (away aims m)
are_goals m from waits aims waited reached = record {
  waited = waited;
  reached = reached;
  measured = λ r g c less e floor. subst (λ (o : Option ℕ). MatchOption (way_to m o c) (AreApart (IsNeighbour m) c g) (IsDistance (IsNeighbour m) c g)) (sym e) (measured m c g floor);
}
