-- Distances that were found.
use Rattle.std.specs.Prelude.{◌≡◌, Option, Some, None}
use Rattle.fleet_grid.specs.Floor.{Floor}
use Rattle.fleet_stats.specs.declared.measure.Way.{Way}
use Rattle.fleet_stats.specs.Rows.{away}

-- what was found, if anything was, is the distance of these cells
abbrev pub IsWay : Floor → Option Way → Type 0
IsWay m None = Unit {0}
IsWay m (Some way) = way.distance ≡ away m way.from way.to
