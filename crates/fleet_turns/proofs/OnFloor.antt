-- Walks stay on floor.
use Rattle.std.proofs.Common.{ℕ, List, [], ◌∷◌, subst}
use Rattle.fleet_grid.specs.Floor.{Floor, IsFloor, IsNeighbour}
use Rattle.fleet_grid.specs.Walk.{Walks, AreJoined}

-- a walk from a floor cell ends on floor
pub walk_ends_on_floor : (m : Floor) (a : ℕ) (cs : List ℕ) (b : ℕ) → IsFloor m a → Walks (IsNeighbour m) a cs b → IsFloor m b
walk_ends_on_floor m a [] b floor walk = subst (IsFloor m) walk floor
walk_ends_on_floor m a (c ∷ cs) b floor walk = walk_ends_on_floor m c cs b walk.0.1.to walk.1

pub way_ends_on_floor : (m : Floor) (a b : ℕ) → IsFloor m a → AreJoined (IsNeighbour m) a b → IsFloor m b
way_ends_on_floor m a b floor way = walk_ends_on_floor m a way.steps b floor way.walk
