-- Which ways from a cell lead on, or nearer to a goal, as a number: its bit `dir_number dir` stands for the way in that direction.
use Rattle.std.specs.Prelude.{◌≡◌, ℕ, ◌<◌, ◌↔◌, List, length, slice_index, Option, Some, None}
use Rattle.std.specs.Int.{bit_at}
use Rattle.fleet_grid.specs.declared.dir.Dir.{Dir}
use Rattle.fleet_grid.specs.Direction.{dir_number}
use Rattle.fleet_grid.specs.Floor.{Floor, IsNeighbourIn}

-- the way in that direction is one of these
abbrev pub IsWay : ℕ → Dir → Type 0
IsWay ways dir = bit_at ways (dir_number dir) ≡ 1

-- of the ways from a cell these lead to a floor neighbour, and the others do not
abbrev pub AreOpen : Floor → ℕ → ℕ → Type 0
AreOpen m cell ways = (dir : Dir) → IsWay ways dir ↔ ((w : ℕ) × IsNeighbourIn m dir cell w)

-- each cell's open ways, in the low half of a byte
pub record AreWays (m : Floor) (ways : List ℕ) : Type 0 where
  pub size : length ways ≡ length m.letters
  pub each : (cell : ℕ) → cell < length m.letters → AreOpen m cell (slice_index ways cell)
  pub low : (cell : ℕ) → cell < length m.letters → slice_index ways cell < 16

-- both are distances, and the first is less
abbrev pub IsLess : Option ℕ → Option ℕ → Type 0
IsLess (Some a) (Some b) = a < b
IsLess (Some a) None = ⊥
IsLess None b = ⊥

-- of the ways to the cell's neighbours these lead to less distance, and the others do not
abbrev pub AreNearer : Floor → (ℕ → Option ℕ) → ℕ → ℕ → Type 0
AreNearer m distance cell ways = (dir : Dir) (w : ℕ) → IsNeighbourIn m dir cell w → IsWay ways dir ↔ IsLess (distance w) (distance cell)
