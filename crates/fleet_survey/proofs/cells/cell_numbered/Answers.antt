use Rattle.std.proofs.Common.{◌∙◌, ap, sym}
use Rattle.fleet_map.specs.Text.{number_of}
use Rattle.fleet_survey.specs.Cells.{floor_only}
use Rattle.fleet_survey.proofs.CellTexts.{capped}
use Rattle.fleet_survey.proofs.cells.cell_numbered.Goals as goal

pub returns : goal.returns
returns c = ap (floor_only c.args.grid.now) (sym c.in_ok-number_up_to.was ∙ c.number_up_to.ensures) ∙ capped c.args.grid.now c.from.result (c.from.ensures ∙ c.cell_count.ensures.value) (number_of c.args.word.now)
