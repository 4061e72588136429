-- A walk down the ways that lead nearer to a goal.
use Rattle.std.specs.Prelude.{◌≡◌, ◌≢◌, ℕ, ◌+◌, Option, Some, None}
use Rattle.fleet_grid.specs.declared.dir.Dir.{Dir}
use Rattle.fleet_grid.specs.Floor.{Floor, IsFloor, IsNeighbourIn}
use Rattle.fleet_grid.specs.Distance.{distance}
use Rattle.fleet_grid.specs.Ways.{IsWay}

-- these ways do not lead in that direction
abbrev pub IsNoWay : Floor → ℕ → ℕ → Dir → Type 0
IsNoWay m ways cell dir = (w : ℕ) → IsNeighbourIn m dir cell w → IsWay ways dir → ⊥

-- one of these ways leads from a cell to the next
abbrev pub IsOnWay : Floor → ℕ → ℕ → ℕ → Type 0
IsOnWay m ways cell next = (dir : Dir) × IsNeighbourIn m dir cell next × IsWay ways dir

-- a number of steps more
abbrev pub after : ℕ → Option ℕ → Option ℕ
after taken None = None
after taken (Some d) = Some (taken + d)

-- the next cell is one step nearer to the goal; without one no walk leads from a cell that is not the goal
abbrev pub IsStep : Floor → ℕ → ℕ → Option ℕ → Type 0
IsStep m goal cell (Some next) = IsFloor m next × (distance m cell goal ≡ after 1 (distance m next goal))
IsStep m goal cell None = cell ≢ goal → distance m cell goal ≡ None
