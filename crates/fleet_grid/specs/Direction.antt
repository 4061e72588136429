-- The order of directions.
use Rattle.std.specs.Prelude.{ℕ}
use Rattle.fleet_grid.specs.declared.dir.Dir.{Dir}
use Rattle.fleet_grid.specs.declared.dir.Dir.TheVariants.{North, East, South, West}

-- the place of a direction in that order, from 0
abbrev pub dir_number : Dir → ℕ
dir_number North = 0
dir_number East = 1
dir_number South = 2
dir_number West = 3
