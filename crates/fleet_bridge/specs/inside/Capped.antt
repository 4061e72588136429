-- Lists with a number for each cell, lowered to the sizes of sides that have the cell.
use Rattle.std.specs.Prelude.{◌≡◌, ℕ, ◌<◌, ◌≤◌, ◌↔◌, List, length, slice_index}
use Rattle.fleet_grid.specs.Floor.{Floor, IsNeighbour, IsNeighbourIn}
use Rattle.fleet_grid.specs.declared.dir.Dir.{Dir}
use Rattle.fleet_grid.specs.Walk.{IsBridge, IsOnSide, HasSide}

-- the cells of a set have `size` at most, and no number is lowered further
pub record IsCapped (In : ℕ → Type 0) (size : ℕ) (old new : List ℕ) : Type 0 where
  pub same : length new ≡ length old
  pub each : (c n : ℕ) → c < length old → (n ≤ slice_index new c) ↔ ((n ≤ slice_index old c) × (In c → n ≤ size))

-- the cells on the far side of each of those bridges have its size at most, and no number is lowered further
pub record IsCappedBy (m : Floor) (Edge : ℕ → ℕ → Type 0) (old new : List ℕ) : Type 0 where
  pub same : length new ≡ length old
  pub each : (c n : ℕ) → c < length m.letters → (n ≤ slice_index new c) ↔ ((n ≤ slice_index old c) × ((a b : ℕ) → Edge a b → IsBridge (IsNeighbour m) a b → IsOnSide (IsNeighbour m) a b c → HasSide (IsNeighbour m) a b n))

-- the edge from a cell in that direction
abbrev pub IsEdgeIn : Floor → ℕ → Dir → ℕ → ℕ → Type 0
IsEdgeIn m cell dir a b = (a ≡ cell) × IsNeighbourIn m dir a b

abbrev pub IsCappedBeside : Floor → ℕ → Dir → List ℕ → List ℕ → Type 0
IsCappedBeside m cell dir = IsCappedBy m (IsEdgeIn m cell dir)

abbrev pub IsCappedAround : Floor → ℕ → List ℕ → List ℕ → Type 0
IsCappedAround m cell = IsCappedBy m (λ a b. a ≡ cell)

-- all edges from the first n cells
abbrev pub IsCappedBelow : Floor → ℕ → List ℕ → List ℕ → Type 0
IsCappedBelow m n = IsCappedBy m (λ a b. a < n)
