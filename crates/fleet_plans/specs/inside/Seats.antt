-- A table that has the robot on each cell: its number and one more, or 0 for a cell without a robot.
use Rattle.std.specs.Prelude.{◌≡◌, ◌≢◌, ℕ, ◌+◌, ◌<◌, ◌⊎◌, List, length, slice_index}
use Rattle.fleet_grid.specs.Floor.{Floor, IsNeighbour}

-- the table has the robot on its cell
abbrev pub IsSeated : List ℕ → List ℕ → ℕ → Type 0
IsSeated seats place r = slice_index seats (slice_index place r) ≡ r + 1

abbrev pub AreSeated : List ℕ → List ℕ → Type 0
AreSeated seats place = (r : ℕ) → r < length place → IsSeated seats place r

-- the robot is one of these
pub record IsOneOf (robots : List ℕ) (r : ℕ) : Type 0 where
  pub at : ℕ
  pub inside : at < length robots
  pub is : slice_index robots at ≡ r

-- no other robots have changed their cells
abbrev pub HaveChanged : List ℕ → List ℕ → List ℕ → Type 0
HaveChanged robots last place = (r : ℕ) → r < length last → slice_index place r ≢ slice_index last r → IsOneOf robots r

-- from the one cell a robot stays on it, or crosses an edge to the other
abbrev pub IsStep : Floor → ℕ → ℕ → Type 0
IsStep m from to = (to ≡ from) ⊎ IsNeighbour m from to

-- each robot does
abbrev pub KeepToEdges : Floor → List ℕ → List ℕ → Type 0
KeepToEdges m last place = (r : ℕ) → r < length last → IsStep m (slice_index last r) (slice_index place r)

-- the robot stays, or goes to a cell from which no robot comes to its own; the table is that of the last cells, and may have robots where they are no more
abbrev pub MayGo : List ℕ → List ℕ → List ℕ → ℕ → Type 0
MayGo seats last place r =
    (slice_index place r ≡ slice_index last r)
    ⊎ ((j : ℕ) → slice_index seats (slice_index place r) ≡ j + 1 → slice_index last j ≡ slice_index place r → slice_index place j ≢ slice_index last r)

-- the robot's last cell and cost are as they were; or its cell is the new one, which is another, and its cost this time
abbrev pub IsPartOf : List ℕ → List ℕ → List ℕ → ℕ → List ℕ → List ℕ → ℕ → Type 0
IsPartOf last costs place time new_last new_costs r =
    ((slice_index new_last r ≡ slice_index last r) × (slice_index new_costs r ≡ slice_index costs r))
    ⊎ ((slice_index new_last r ≡ slice_index place r) × (slice_index place r ≢ slice_index last r) × (slice_index new_costs r ≡ time))

-- the robot is where this has it, or where it was
abbrev pub IsMovedOrNot : (ℕ → ℕ) → List ℕ → List ℕ → ℕ → Type 0
IsMovedOrNot to from place r = (slice_index place r ≡ slice_index from r) ⊎ (slice_index place r ≡ to r)
