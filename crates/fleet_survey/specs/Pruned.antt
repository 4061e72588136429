-- Maps whose cells are all roomy.
use Rattle.std.specs.Prelude.{◌≡◌, ◌≢◌, ◌↔◌, ℕ, ◌<◌, ◌≤◌, Bool, true, false, List, length, slice_index}
use Rattle.fleet_grid.specs.Floor.{Floor, IsFloor, IsNeighbour}
use Rattle.fleet_grid.specs.Walk.{AreJoined, IsRoomy}
use Rattle.fleet_roomy.specs.Unroomy.{has}

-- each floor cell of the map is one of the other map, and both have the same sides
pub record IsWithin (s m : Floor) : Type 0 where
  pub height : s.height ≡ m.height
  pub width : s.width ≡ m.width
  pub cells : (c : ℕ) → IsFloor s c → IsFloor m c

-- walks join the cell to n cells or more
pub record HasPart (Near : ℕ → ℕ → Type 0) (c n : ℕ) : Type 0 where
  pub cells : List ℕ
  pub many : n ≤ length cells
  pub apart : (i j : ℕ) → i < j → j < length cells → slice_index cells i ≢ slice_index cells j
  pub inside : (i : ℕ) → i < length cells → AreJoined Near c (slice_index cells i)

-- each floor cell is roomy for n robots, and in a part of n cells or more
pub record IsFit (n : ℕ) (s : Floor) : Type 0 where
  pub roomy : (c : ℕ) → IsFloor s c → IsRoomy (IsNeighbour s) n c
  pub many : (c : ℕ) → IsFloor s c → HasPart (IsNeighbour s) c n

-- the map without some of its cells, but with each map within it that is fit for n robots
pub record Keeps (n : ℕ) (m p : Floor) : Type 0 where
  pub within : IsWithin p m
  pub fit : (s : Floor) → IsFit n s → IsWithin s m → IsWithin s p

-- all cells of the pruned map are roomy for n robots, and it has each map within the other that is fit for them
pub record IsPruned (n : ℕ) (m p : Floor) : Type 0 where
  pub keeps : Keeps n m p
  pub roomy : (c : ℕ) → IsFloor p c → IsRoomy (IsNeighbour p) n c

-- the map whose floor cells are the marked ones
pub record IsMapOf (m : Floor) (marks : List Bool) (p : Floor) : Type 0 where
  pub height : p.height ≡ m.height
  pub width : p.width ≡ m.width
  pub floor : (c : ℕ) → IsFloor p c ↔ (has marks c ≡ true)

-- the letter of a cell: `.` for floor, `@` for a wall
abbrev pub letter_for : Bool → ℕ
letter_for true = 46
letter_for false = 64

-- the marked cells are the floor cells but for these
pub record AreMarks (m : Floor) (others marks : List Bool) : Type 0 where
  pub size : length marks ≡ length m.letters
  pub marked : (c : ℕ) → (has marks c ≡ true) ↔ (IsFloor m c × (has others c ≡ false))

-- none of these cells is in a map within the other that is fit for n robots
abbrev pub Spares : ℕ → Floor → List Bool → Type 0
Spares n m cells = (s : Floor) → IsFit n s → IsWithin s m → (c : ℕ) → IsFloor s c → has cells c ≡ false
