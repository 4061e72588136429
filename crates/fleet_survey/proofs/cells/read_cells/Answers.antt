use Rattle.fleet_map.specs.Text.{lines_of}
use Rattle.fleet_survey.specs.Cells.{listed_cells}
use Rattle.fleet_survey.proofs.CellTexts.{cells_floor, lines_end}
use Rattle.fleet_survey.proofs.cells.read_cells.Goals as goal

pub returns-clause-floor : goal.returns-clause-floor
returns-clause-floor c =
    let m = c.args.grid.now in
    let text = c.args.text.now in
    let cells = c.loop-line.cells.items in
    cells_floor m 1 (lines_of text) cells (lines_end m cells c.loop-line.number (lines_of c.loop-line.rest.now) (listed_cells m text) c.in_default.ensures.cut c.loop-line.invariant.reads)
