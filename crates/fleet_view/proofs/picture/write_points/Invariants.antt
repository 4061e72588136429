use Rattle.std.proofs.Common.{◌≡◌, ◌++◌, drop, string_bytes}
use Rattle.fleet_view.specs.Picture.{points_text}
use Rattle.fleet_view.proofs.picture.write_points.Given as goal

abbrev pub invariant-loop-cell : goal.invariant-loop-cell
invariant-loop-cell l = string_bytes l.out ++ points_text l.width (drop l.cell-index l.cells) ≡ string_bytes l.fn.out ++ points_text l.width l.cells
