-- The advancing step: the robot that has waited longest comes nearer to its goal, or stays on it.
use Rattle.std.specs.Prelude.{◌≡◌, ℕ, suc, ◌<◌, ◌⊎◌, Option, Some, List, length, slice_index}
use Rattle.fleet_grid.specs.Floor.{Floor, IsNeighbour}
use Rattle.fleet_grid.specs.Walk.{IsDistance, IsBridge, IsOnSide}
use Rattle.fleet_pibt.specs.Eldest.{IsEldest}
use Rattle.fleet_pibt.specs.Goals.{IsNearer}
use Rattle.fleet_pibt.specs.Purposeful.{IsEmptyIn}

-- the new cell's distance to the goal is d where the old cell's is d + 1, or the robot stood on its goal and stays
abbrev pub Advances : Floor → (goal old new : ℕ) → Type 0
Advances m goal old new =
    ((d : ℕ) × IsDistance (IsNeighbour m) old goal (suc d) × IsDistance (IsNeighbour m) new goal d)
    ⊎ ((old ≡ goal) × (new ≡ old))

-- if there is an eldest, it advances
abbrev pub IsAdvancing : Floor → List (Option ℕ) → (ℕ → Option ℕ) → (from to : List ℕ) → Type 0
IsAdvancing m waits goals from to =
    (e g : ℕ) → IsEldest waits e → goals e ≡ Some g → Advances m g (slice_index from e) (slice_index to e)

-- each neighbour of the robot's cell that is nearer to its goal is empty, or joined to its cell by an edge that is no
-- bridge
abbrev pub IsOpenAhead : Floor → (from : List ℕ) → (goal cell : ℕ) → Type 0
IsOpenAhead m from goal cell =
    (w : ℕ) → IsNeighbour m cell w → IsNearer m goal w cell → IsEmptyIn from w ⊎ (IsBridge (IsNeighbour m) cell w → ⊥)

-- the edge is a bridge, and a robot stands on each cell beyond it
pub record IsFullBeyond (m : Floor) (from : List ℕ) (cell w : ℕ) : Type 0 where
  pub bridge : IsBridge (IsNeighbour m) cell w
  pub full : (c : ℕ) → IsOnSide (IsNeighbour m) cell w c → (r : ℕ) × (r < length from) × (slice_index from r ≡ c)

-- no neighbour of the robot's cell that is nearer to its goal lies beyond a bridge with a robot on each cell there
abbrev pub HasWayAhead : Floor → (from : List ℕ) → (goal cell : ℕ) → Type 0
HasWayAhead m from goal cell = (w : ℕ) → IsNeighbour m cell w → IsNearer m goal w cell → IsFullBeyond m from cell w → ⊥
