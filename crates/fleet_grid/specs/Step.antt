-- Placements and conflict-free steps, as Stern et al. (Multi-Agent Pathfinding: Definitions, Variants, and
-- Benchmarks, SoCS 2019) define conflicts. Following and cycle conflicts are permitted.
use Rattle.std.specs.Prelude.{◌≡◌, ◌≢◌, ℕ, ◌<◌, ◌⊎◌, List, length, slice_index}
use Rattle.fleet_grid.specs.Floor.{Floor, IsFloor, IsNeighbour}

-- distinct floor cells; item r is the cell of robot r
pub record IsPlacement (m : Floor) (place : List ℕ) : Type 0 where
  pub on_floor : (r : ℕ) → r < length place → IsFloor m (slice_index place r)
  pub distinct : (i j : ℕ) → i < j → j < length place → slice_index place i ≢ slice_index place j

-- each robot stays on its floor cell or crosses an edge, no two are on one cell (vertex conflict), and no two exchange
-- their cells (swapping conflict)
pub record IsConflictFree (m : Floor) (from to : List ℕ) : Type 0 where
  pub same_length : length to ≡ length from
  pub on_floor : (r : ℕ) → r < length from → IsFloor m (slice_index to r)
  pub moves : (r : ℕ) → r < length from → (slice_index to r ≡ slice_index from r) ⊎ IsNeighbour m (slice_index from r) (slice_index to r)
  pub no_vertex_conflict : (i j : ℕ) → i < j → j < length from → slice_index to i ≢ slice_index to j
  pub no_swapping_conflict : (i j : ℕ) → i < j → j < length from → slice_index to i ≡ slice_index from j → slice_index to j ≢ slice_index from i
