-- What a tie law decides: which of several nearer cells a robot may take.
use Rattle.std.specs.Prelude.{ℕ, ◌<◌, ◌≤◌, ◌⊎◌, slice_index}
use Rattle.fleet_grid.specs.Direction.{dir_number}
use Rattle.fleet_grid.specs.Floor.{Floor, IsNeighbourIn}
use Rattle.fleet_grid.specs.declared.dir.Dir.{Dir}
use Rattle.fleet_hooks.specs.declared.law.TieLaw.{TieLaw}
use Rattle.fleet_pibt.specs.Goals.{IsNearer}

-- by the law the direction e comes before d, whatever the ranks: each rank of e is below each of d, or at most each of
-- d where e is the lesser direction
abbrev pub Undercuts : TieLaw → (e d : Dir) → Type 0
Undercuts law e d =
    (slice_index law.high (dir_number e) < slice_index law.low (dir_number d))
    ⊎ ((slice_index law.high (dir_number e) ≤ slice_index law.low (dir_number d)) × (dir_number e < dir_number d))

-- the robot does not leave to a nearer cell in a direction d, where another nearer cell lies in a direction that comes
-- before d
abbrev pub IsByLaw : Floor → TieLaw → (goal old new : ℕ) → Type 0
IsByLaw m law goal old new =
    (d e : Dir) (other : ℕ) →
    IsNeighbourIn m d old new → IsNearer m goal new old →
    IsNeighbourIn m e old other → IsNearer m goal other old →
    Undercuts law e d → ⊥
