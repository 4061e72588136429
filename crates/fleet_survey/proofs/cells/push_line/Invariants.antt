use Rattle.std.proofs.Common.{◌≡◌, length}
use Rattle.fleet_map.specs.Text.{words_of}
use Rattle.fleet_survey.specs.Cells.{named_cells}
use Rattle.fleet_survey.proofs.CellTexts.{told}
use Rattle.fleet_survey.proofs.cells.push_line.Given as goal

abbrev pub invariant-loop-word : goal.invariant-loop-word
invariant-loop-word l = told l.cells.items (named_cells l.grid (words_of l.rest)) ≡ told l.fn.cells.items (named_cells l.grid (words_of l.line))

abbrev pub decreases-loop-word : goal.decreases-loop-word
decreases-loop-word l = length l.rest
