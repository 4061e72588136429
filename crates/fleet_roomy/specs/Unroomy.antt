-- The cells of a map that are not roomy for a fleet.
use Rattle.std.specs.Prelude.{◌≡◌, ◌↔◌, ℕ, Bool, true, false, List, slice_get, unwrap_or}
use Rattle.fleet_grid.specs.Floor.{Floor, IsFloor, IsNeighbour}
use Rattle.fleet_grid.specs.Walk.{IsRoomy}

-- a floor cell that is roomy for n robots
abbrev pub IsRoomyCell : Floor → ℕ → ℕ → Type 0
IsRoomyCell m n c = IsFloor m c × IsRoomy (IsNeighbour m) n c

-- a floor cell that is not
abbrev pub IsUnroomyCell : Floor → ℕ → ℕ → Type 0
IsUnroomyCell m n c = IsFloor m c × (IsRoomy (IsNeighbour m) n c → ⊥)

-- whether a cell is one of these
abbrev pub has : List Bool → ℕ → Bool
has cells c = unwrap_or (slice_get cells c) false

-- these are the floor cells that are not roomy for n robots, and the other floor cells are roomy
pub record AreUnroomy (m : Floor) (n : ℕ) (cells : List Bool) : Type 0 where
  pub exact : (c : ℕ) → (has cells c ≡ true) ↔ IsUnroomyCell m n c
  pub others : (c : ℕ) → IsFloor m c → has cells c ≡ false → IsRoomy (IsNeighbour m) n c
