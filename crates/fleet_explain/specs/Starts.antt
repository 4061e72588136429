-- Why a fleet cannot begin, whatever its closures.
use Rattle.std.specs.Prelude.{◌≡◌, ◌<◌, ◌≤◌, ℕ, nat_lt, if◌then◌else◌, List, length, slice_index}
use Rattle.fleet_grid.specs.Floor.{Floor}
use Rattle.fleet_book.specs.declared.limits.Limits.{Limits}
use Rattle.fleet_core.specs.OpeningFaults.{IsStartRefused}
use Rattle.fleet_core.specs.declared.faults.OpenFault.TheVariants as refusal
use Rattle.fleet_explain.specs.declared.opening.StartFault.{StartFault}
use Rattle.fleet_explain.specs.declared.opening.StartFault.TheVariants as fault
use Rattle.fleet_explain.specs.Limits.{value_of, IsFirstOut}

-- on a map of this many cells
abbrev pub off_floor : ℕ → ℕ → ℕ → StartFault
off_floor cells robot cell = if nat_lt cell cells then fault.OffFloor robot cell else fault.Outside robot cell cells

-- the first reason why a fleet cannot begin on these cells, with these clients and limits
abbrev pub IsStartFault : Floor → List ℕ → ℕ → Limits → StartFault → Type 0
IsStartFault m starts clients limits (fault.Limit f) = IsStartRefused m starts clients limits refusal.Limits × IsFirstOut limits clients f.kind × (f.value ≡ value_of limits clients f.kind)
IsStartFault m starts clients limits fault.Robots = IsStartRefused m starts clients limits refusal.NoRobots
IsStartFault m starts clients limits (fault.OffFloor robot cell) = IsStartRefused m starts clients limits (refusal.Start robot) × (cell ≡ slice_index starts robot) × (cell < length m.letters)
IsStartFault m starts clients limits (fault.Outside robot cell cells) =
    IsStartRefused m starts clients limits (refusal.Start robot) × (cell ≡ slice_index starts robot) × (cells ≡ length m.letters) × (cells ≤ cell)
IsStartFault m starts clients limits (fault.Shared first second cell) = IsStartRefused m starts clients limits (refusal.Shared first second) × (cell ≡ slice_index starts first)
