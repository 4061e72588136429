use Rattle.std.proofs.Common.{◌≡◌, ◌+◌, ◌≤◌, length}
use Rattle.fleet_map.specs.Text.{lines_of}
use Rattle.fleet_survey.specs.Cells.{cells_from, listed_cells}
use Rattle.fleet_survey.proofs.CellTexts.{told_lines}
use Rattle.fleet_survey.proofs.cells.read_cells.Given as goal

abbrev pub invariant-loop-line : goal.invariant-loop-line
invariant-loop-line l = record { reads : told_lines l.cells.items (cells_from l.grid l.number (lines_of l.rest)) ≡ listed_cells l.grid l.text; few : l.number + length l.rest ≤ length l.text + 1 }

abbrev pub decreases-loop-line : goal.decreases-loop-line
decreases-loop-line l = length l.rest
