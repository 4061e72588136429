-- What the check of the distances to the cores tests.
use Rattle.std.specs.Prelude.{◌≡◌, ℕ, ◌+◌, ◌≤◌, ◌⊎◌, List, slice_index}
use Rattle.fleet_grid.specs.Floor.{Floor, IsNeighbourIn}
use Rattle.fleet_grid.specs.declared.dir.Dir.{Dir}

-- neighbours that way have the same core, and are nearer by one at most
abbrev pub IsEven : (m : Floor) (core away : List ℕ) (cell : ℕ) (dir : Dir) → Type 0
IsEven m core away cell dir = (w : ℕ) → IsNeighbourIn m dir cell w → (slice_index core cell ≡ slice_index core w) × (slice_index away cell ≤ slice_index away w + 1)

-- the neighbour that way is nearer by one
abbrev pub IsOneNearer : (m : Floor) (away : List ℕ) (cell : ℕ) (dir : Dir) → Type 0
IsOneNearer m away cell dir = (w : ℕ) × IsNeighbourIn m dir cell w × (slice_index away w + 1 ≡ slice_index away cell)

-- all that is tested of a floor cell
pub record IsAwayAt (m : Floor) (core away : List ℕ) (cell : ℕ) : Type 0 where
  pub even : (dir : Dir) → IsEven m core away cell dir
  pub nearer : ((slice_index core cell ≡ cell) × (slice_index away cell ≡ 0)) ⊎ ((slice_index core cell ≡ cell → ⊥) × ((dir : Dir) × IsOneNearer m away cell dir))
