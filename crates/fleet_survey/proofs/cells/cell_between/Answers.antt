use Rattle.std.proofs.Common.{◌∙◌, ℕ, Option, ap, min}
use Rattle.std.specs.Option.{option_map}
use Rattle.fleet_map.specs.Text.{number_of}
use Rattle.fleet_survey.specs.Cells.{cell_by}
use Rattle.fleet_survey.proofs.CellTexts.{both_capped}
use Rattle.fleet_survey.proofs.cells.cell_between.Goals as goal

pub returns : goal.returns
returns c =
    let m = c.args.grid.now in
    let column = number_of c.args.column.now in
    c.cell_by.ensures
    ∙ (ap (λ (x : Option ℕ). cell_by m x c.number_up_to-row.result) c.number_up_to-column.ensures
    ∙ (ap (λ (y : Option ℕ). cell_by m (option_map (λ n. min n c.from.result) column) y) c.number_up_to-row.ensures
    ∙ both_capped m c.from.result c.from-2.result (c.from.ensures ∙ c.width.ensures.value) (c.from-2.ensures ∙ c.height.ensures.value) column (number_of c.args.row.now)))
