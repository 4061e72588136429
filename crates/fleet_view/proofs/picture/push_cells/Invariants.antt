use Rattle.std.proofs.Common.{◌≡◌, ◌++◌, drop}
use Rattle.fleet_view.specs.Picture.{cells_over}
use Rattle.fleet_view.proofs.picture.push_cells.Given as goal

abbrev pub invariant-loop-entry : goal.invariant-loop-entry
invariant-loop-entry l = l.cells.items ++ cells_over l.robot (drop l.entry-index l.entries) ≡ l.fn.cells.items ++ cells_over l.robot l.entries
