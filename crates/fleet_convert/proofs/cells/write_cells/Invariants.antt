use Rattle.std.proofs.Common.{◌≡◌, ◌++◌, drop, string_bytes}
use Rattle.fleet_convert.specs.Cells.{cells_text}
use Rattle.fleet_convert.proofs.cells.write_cells.Given as goal

abbrev pub invariant-loop-cell : goal.invariant-loop-cell
invariant-loop-cell l = string_bytes l.out ++ cells_text l.width (drop l.cell-index l.cells) ≡ string_bytes l.fn.out ++ cells_text l.width l.cells
