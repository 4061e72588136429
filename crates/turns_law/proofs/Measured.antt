-- Cells that a walk joins have a distance.
use Rattle.std.proofs.Common.{◌≡◌, ℕ, ◌⊎◌, inl, inr, Option, Some, None, refl}
use Rattle.fleet_grid.specs.Floor.{Floor, IsFloor, IsNeighbour}
use Rattle.fleet_grid.specs.Walk.{Walks, AreApart, IsDistance}
use Rattle.fleet_grid.specs.Distance.{distance}
use Rattle.fleet_grid.proofs.Shortest.{distance_is, no_distance}

none_or_some : (o : Option ℕ) → (o ≡ None) ⊎ ((x : ℕ) × (o ≡ Some x))
none_or_some None = inl refl
none_or_some (Some x) = inr (x, refl)

pub joined_least : (m : Floor) (a b : ℕ) → IsFloor m a → (AreApart (IsNeighbour m) a b → ⊥) → (d : ℕ) × IsDistance (IsNeighbour m) a b d
joined_least m a b floor joined = elim (none_or_some (distance m a b)) [
  | inl none ↦ absurd (joined (no_distance m a b floor none))
  | inr some ↦ (some.0, distance_is m a b some.0 some.1)
]
