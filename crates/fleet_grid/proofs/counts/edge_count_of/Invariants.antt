use Rattle.std.proofs.Common.{◌≡◌, ◌≤◌}
use Rattle.std.specs.Prelude.{count_by}
use Rattle.std.specs.List.{range_with_len}
use Rattle.fleet_grid.specs.Counts.{has_east, has_south}
use Rattle.fleet_grid.proofs.counts.edge_count_of.Given as goal

abbrev pub invariant-loop-cell : goal.invariant-loop-cell
invariant-loop-cell g l = record {
  east : l.east ≡ count_by (has_east l.cells) (range_with_len 0 l.cell);
  south : l.south ≡ count_by (has_south l.cells) (range_with_len 0 l.cell);
  few_east : l.east ≤ l.cell;
  few_south : l.south ≤ l.cell;
}
