use Rattle.std.proofs.Common.{◌≡◌, ◌++◌, drop, string_bytes}
use Rattle.std.specs.List.{flat_map}
use Rattle.fleet_survey.specs.Picture.{cell_text}
use Rattle.fleet_survey.proofs.picture.write_cells.Given as goal

abbrev pub invariant-loop-cell : goal.invariant-loop-cell
invariant-loop-cell l = string_bytes l.out ++ flat_map (cell_text l.width) (drop l.cell-index l.cells) ≡ string_bytes l.fn.out ++ flat_map (cell_text l.width) l.cells
