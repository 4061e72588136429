-- The robots that were found beyond an edge.
use Rattle.std.specs.Prelude.{◌≡◌, ◌≢◌, ℕ, ◌<◌, ◌≤◌, Bool, true, false, List, length, slice_index, slice_index_or, count_by}
use Rattle.fleet_grid.specs.Floor.{Floor, IsNeighbour}
use Rattle.fleet_grid.specs.Walk.{IsOnSide}

-- one of these robots stands on the cell
abbrev pub Has : (cells robots : List ℕ) → ℕ → Type 0
Has cells robots c = (k : ℕ) × (k < length robots) × (slice_index cells (slice_index robots k) ≡ c)

-- these robots, which are marked, stand on cells beyond the edge of u and v, none of them on u
pub record AreFound (m : Floor) (cells : List ℕ) (u v : ℕ) (seen : List Bool) (robots : List ℕ) : Type 0 where
  pub size : length seen ≡ length cells
  pub count : length robots ≡ count_by (λ b. b) seen
  pub marked : (r : ℕ) → slice_index_or seen r false ≡ true → (k : ℕ) × (k < length robots) × (slice_index robots k ≡ r)
  pub inside : (k : ℕ) → k < length robots → slice_index robots k < length cells
  pub beyond : (k : ℕ) → k < length robots → IsOnSide (IsNeighbour m) u v (slice_index cells (slice_index robots k))
  pub other : (k : ℕ) → k < length robots → slice_index cells (slice_index robots k) ≢ u

-- more robots, after the same ones
pub record AreMore (robots more : List ℕ) : Type 0 where
  pub count : length robots ≤ length more
  pub same : (k : ℕ) → k < length robots → slice_index more k ≡ slice_index robots k
