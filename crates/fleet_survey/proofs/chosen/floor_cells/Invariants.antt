use Rattle.std.proofs.Common.{◌≡◌}
use Rattle.fleet_grid.specs.Floor.{IsFloor}
use Rattle.fleet_roomy.specs.Unroomy.{has}
use Rattle.fleet_survey.specs.Survey.{AreCellsBelow}
use Rattle.fleet_survey.proofs.chosen.floor_cells.Given as goal

abbrev pub invariant-loop-cell : goal.invariant-loop-cell
invariant-loop-cell l = AreCellsBelow (λ c. IsFloor l.grid c × (has l.unroomy.marks.items c ≡ l.are_unroomy)) l.cell l.cells.items
