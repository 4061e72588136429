-- How far cells are from a target, if no obstacle is in the way.
use Rattle.std.specs.Prelude.{ℕ, ◌+◌, ◌-◌, ◌/◌, ◌%◌, ◌<◌}
use Rattle.fleet_grid.specs.declared.dir.Dir.{Dir}
use Rattle.fleet_grid.specs.declared.dir.Dir.TheVariants.{North, East, South, West}
use Rattle.fleet_field.specs.declared.target.Target.{Target}

-- how far two numbers are apart
abbrev pub gap : ℕ → ℕ → ℕ
gap a b = (a - b) + (b - a)

-- rows and columns between a cell and the target
abbrev pub estimate : Target → ℕ → ℕ
estimate t cell = gap (cell / t.width) t.row + gap (cell % t.width) t.column

-- a step from the cell in that direction leads nearer to the target
abbrev pub IsToward : Target → ℕ → Dir → Type 0
IsToward t cell North = t.row < cell / t.width
IsToward t cell East = cell % t.width < t.column
IsToward t cell South = cell / t.width < t.row
IsToward t cell West = t.column < cell % t.width
