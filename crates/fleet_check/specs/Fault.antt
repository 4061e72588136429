-- The first fault of a step from the cells `from` to the cells `to`. Conflicts are those of Stern et al. (Multi-Agent
-- Pathfinding: Definitions, Variants, and Benchmarks, SoCS 2019).
use Rattle.std.specs.Prelude.{◌≡◌, ◌≢◌, ℕ, ◌<◌, ◌≤◌, ◌⊎◌, List, length, slice_index}
use Rattle.fleet_grid.specs.Floor.{Floor, IsFloor, IsNeighbour}
use Rattle.fleet_check.specs.declared.fault.StepFault.{StepFault}
use Rattle.fleet_check.specs.declared.fault.StepFault.TheVariants.{Length, OffFloor, NotAdjacent, NoMemory, Vertex, Swap}

-- the robot stays or crosses an edge
abbrev pub Moves : Floor → List ℕ → List ℕ → ℕ → Type 0
Moves m from to r = (slice_index to r ≡ slice_index from r) ⊎ IsNeighbour m (slice_index from r) (slice_index to r)

-- two robots come to one cell: a vertex conflict
abbrev pub ShareCell : List ℕ → ℕ → ℕ → Type 0
ShareCell to i j = slice_index to i ≡ slice_index to j

-- two robots exchange their cells: a swapping conflict
abbrev pub Exchange : List ℕ → List ℕ → ℕ → ℕ → Type 0
Exchange from to i j = (slice_index to i ≡ slice_index from j) × (slice_index to j ≡ slice_index from i)

-- the least robot of which it holds, of this many
pub record IsFirst (Holds : ℕ → Type 0) (robots r : ℕ) : Type 0 where
  pub inside : r < robots
  pub holds : Holds r
  pub none_before : (k : ℕ) → k < r → Holds k → ⊥

-- the pair of which it holds with the least lower, then the least upper robot, of this many
pub record IsFirstPair (Holds : ℕ → ℕ → Type 0) (robots i j : ℕ) : Type 0 where
  pub order : i < j
  pub inside : j < robots
  pub holds : Holds i j
  pub none_before : (k l : ℕ) → k < l → l < robots → Holds k l → (i < k) ⊎ ((i ≡ k) × (j ≤ l))

-- there are as many cells after the step as before, each on the floor
pub record AreOnFloor (m : Floor) (from to : List ℕ) : Type 0 where
  pub same_length : length to ≡ length from
  pub on_floor : (r : ℕ) → r < length from → IsFloor m (slice_index to r)

-- the cells after the step are on the floor, and each robot stays or crosses an edge
pub record AreMoves (m : Floor) (from to : List ℕ) : Type 0 where
  pub on_floor : AreOnFloor m from to
  pub moves : (r : ℕ) → r < length from → Moves m from to r

-- what a fault says of a step: what it names is there, and no fault before it
abbrev pub IsFirstFault : Floor → List ℕ → List ℕ → StepFault → Type 0
IsFirstFault m from to Length = length to ≢ length from
IsFirstFault m from to (OffFloor r) = (length to ≡ length from) × IsFirst (λ k. IsFloor m (slice_index to k) → ⊥) (length from) r
IsFirstFault m from to (NotAdjacent r) = AreOnFloor m from to × IsFirst (λ k. Moves m from to k → ⊥) (length from) r
IsFirstFault m from to NoMemory = ⊥
IsFirstFault m from to (Vertex i j) = AreMoves m from to × IsFirstPair (ShareCell to) (length from) i j
IsFirstFault m from to (Swap i j) = AreMoves m from to × ((k l : ℕ) → k < l → l < length from → ShareCell to k l → ⊥) × IsFirstPair (Exchange from to) (length from) i j

-- why a step is refused: its first fault; or, in a step of moves, no memory to look for a conflict
abbrev pub IsRefusal : Floor → List ℕ → List ℕ → StepFault → Type 0
IsRefusal m from to NoMemory = AreMoves m from to
IsRefusal m from to Length = IsFirstFault m from to Length
IsRefusal m from to (OffFloor r) = IsFirstFault m from to (OffFloor r)
IsRefusal m from to (NotAdjacent r) = IsFirstFault m from to (NotAdjacent r)
IsRefusal m from to (Vertex i j) = IsFirstFault m from to (Vertex i j)
IsRefusal m from to (Swap i j) = IsFirstFault m from to (Swap i j)

-- why cells are no placement: the least robot off the floor, else the first two robots on one cell
abbrev pub IsPlacementFault : Floor → List ℕ → StepFault → Type 0
IsPlacementFault m cells (OffFloor r) = IsFirst (λ k. IsFloor m (slice_index cells k) → ⊥) (length cells) r
IsPlacementFault m cells (Vertex i j) = ((r : ℕ) → r < length cells → IsFloor m (slice_index cells r)) × IsFirstPair (ShareCell cells) (length cells) i j
IsPlacementFault m cells NoMemory = ⊥
IsPlacementFault m cells Length = ⊥
IsPlacementFault m cells (NotAdjacent r) = ⊥
IsPlacementFault m cells (Swap i j) = ⊥
