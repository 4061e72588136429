-- Which robot moves to a cell, as the search for conflicts keeps it.
use Rattle.std.specs.Prelude.{◌≡◌, ◌≢◌, ℕ, ◌<◌, ◌≤◌, ◌⊎◌, List, length, slice_index, Option, Some, None}
use Rattle.fleet_check.specs.Fault.{ShareCell, IsFirstPair}
use Rattle.fleet_check.specs.declared.fault.StepFault.{StepFault}
use Rattle.fleet_check.specs.declared.fault.StepFault.TheVariants.{Length, OffFloor, NotAdjacent, NoMemory, Vertex, Swap}

-- no two robots come to one cell, and for each cell the list says which one does
pub record AreSeats (to : List ℕ) (seat : ℕ → Option ℕ) : Type 0 where
  pub apart : (i j : ℕ) → i < j → j < length to → ShareCell to i j → ⊥
  pub each : (r : ℕ) → r < length to → seat (slice_index to r) ≡ Some r
  pub only : (c r : ℕ) → seat c ≡ Some r → (r < length to) × (slice_index to r ≡ c)

-- out of memory, or the first two robots that move to one cell
abbrev pub IsSeatFault : List ℕ → StepFault → Type 0
IsSeatFault to NoMemory = Unit {0}
IsSeatFault to (Vertex i j) = IsFirstPair (ShareCell to) (length to) i j
IsSeatFault to Length = ⊥
IsSeatFault to (OffFloor r) = ⊥
IsSeatFault to (NotAdjacent r) = ⊥
IsSeatFault to (Swap i j) = ⊥

-- the least robot from `low` on that moves to the cell, if there is one
abbrev pub IsSeat : List ℕ → ℕ → ℕ → Option ℕ → Type 0
IsSeat to low c None = (r : ℕ) → low ≤ r → r < length to → slice_index to r ≢ c
IsSeat to low c (Some r) = (low ≤ r) × (r < length to) × (slice_index to r ≡ c) × ((k : ℕ) → low ≤ k → k < r → slice_index to k ≢ c)

-- the first two robots from `low` on that come to one cell, if there are any
abbrev pub IsShared : List ℕ → ℕ → Option (ℕ × ℕ) → Type 0
IsShared to low None = (i j : ℕ) → low ≤ i → i < j → j < length to → ShareCell to i j → ⊥
IsShared to low (Some p) = (low ≤ p.0) × (p.0 < p.1) × (p.1 < length to) × ShareCell to p.0 p.1 × ((k l : ℕ) → low ≤ k → k < l → l < length to → ShareCell to k l → (p.0 < k) ⊎ ((p.0 ≡ k) × (p.1 ≤ l)))

-- the robot moves to the other's cell, and the other, of a greater number, to its cell
pub record IsPartner (from to : List ℕ) (seat : ℕ → Option ℕ) (r other : ℕ) : Type 0 where
  pub comes : seat (slice_index from r) ≡ Some other
  pub greater : r < other
  pub back : slice_index from other ≡ slice_index to r
