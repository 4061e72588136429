use Rattle.std.proofs.Common.{◌≡◌, ◌++◌, slice_index, string_bytes}
use Rattle.fleet_stats.specs.Text.{cells_below}
use Rattle.fleet_stats.proofs.tables.write_cells.Given as goal

abbrev pub invariant-loop-cell : goal.invariant-loop-cell
invariant-loop-cell l = string_bytes l.out ≡ string_bytes l.fn.out ++ cells_below l.width (slice_index l.counts) l.cell
