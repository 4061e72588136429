-- Where robots go, and how far that is. `goals` tells a robot's goal, and `distance` how far a cell is from it.
use Rattle.std.specs.Prelude.{◌≡◌, ℕ, ◌<◌, ◌↔◌, Option, Some, List, length, slice_index, unwrap_or, IsSome, MatchOption}
use Rattle.fleet_grid.specs.Floor.{Floor, IsFloor, IsNeighbour}
use Rattle.fleet_grid.specs.Walk.{AreJoined, AreApart, IsDistance}
use Rattle.fleet_pibt.specs.Order.{wait_of}

-- the cell that the robot goes to: an idle robot's is its own
abbrev pub aim : List ℕ → (ℕ → Option ℕ) → ℕ → ℕ
aim from goals r = unwrap_or (goals r) (slice_index from r)

-- the cell a is strictly nearer to the goal than b
pub record IsNearer (m : Floor) (goal a b : ℕ) : Type 0 where
  pub near : ℕ
  pub far : ℕ
  pub near_is : IsDistance (IsNeighbour m) a goal near
  pub far_is : IsDistance (IsNeighbour m) b goal far
  pub less : near < far

-- a goal is there exactly where a wait is, it lies in its robot's part, and the distances of the floor cells are those
-- to it
pub record AreGoals
    (m : Floor)
    (from : List ℕ)
    (waits : List (Option ℕ))
    (goals : ℕ → Option ℕ)
    (distance : ℕ → ℕ → Option ℕ)
    : Type 0 where
  pub waited : (r : ℕ) → r < length from → IsSome (goals r) ↔ IsSome (wait_of waits r)
  pub reached : (r g : ℕ) → r < length from → goals r ≡ Some g → AreJoined (IsNeighbour m) (slice_index from r) g
  pub measured : (r g c : ℕ) → r < length from → goals r ≡ Some g → IsFloor m c →
      MatchOption (distance r c) (AreApart (IsNeighbour m) c g) (IsDistance (IsNeighbour m) c g)
