use Rattle.std.proofs.Common.{◌≡◌, ℕ, ◌≤◌, ◌+◌, length, subst, sym, arith}
use Rattle.fleet_grid.proofs.Forms.{floor_inside}
use Rattle.fleet_grid.specs.Floor.{IsFloor}
use Rattle.fleet_roomy.specs.Unroomy.{has}
use Rattle.fleet_survey.specs.Survey.{AreCellsBelow}
use Rattle.fleet_survey.proofs.Sets.{none_below, next_below, all_below}
use Rattle.fleet_survey.proofs.chosen.floor_cells.Goals as goal

pub loop-cell-init : goal.loop-cell-init
loop-cell-init c =
    let In : ℕ → Type 0 = λ k. IsFloor c.args.grid.now k × (has c.args.unroomy.now.marks.items k ≡ c.args.are_unroomy) in
    subst (AreCellsBelow In 0) (sym c.new-cells.ensures.items) (none_below In)

pub loop-cell-preserved : goal.loop-cell-preserved
loop-cell-preserved c =
    let In : ℕ → Type 0 = λ k. IsFloor c.args.grid.now k × (has c.args.unroomy.now.marks.items k ≡ c.args.are_unroomy) in
    subst (AreCellsBelow In (c.loop-cell.cell + 1)) (sym c.in_ok-push_if.ensures)
    (next_below In c.loop-cell.cell c.loop-cell.cells.items c.is_wanted.result c.loop-cell.invariant c.is_wanted.ensures.0 c.is_wanted.ensures.1)

pub returns : goal.returns
returns c =
    let In : ℕ → Type 0 = λ k. IsFloor c.args.grid.now k × (has c.args.unroomy.now.marks.items k ≡ c.args.are_unroomy) in
    let end : length c.args.grid.now.letters ≤ c.loop-cell.cell = omega (arith, c.cell_count-cell-end.ensures.value, c.loop-cell-test.false) in
    all_below In c.loop-cell.cell c.loop-cell.cells.items (λ x it. (let small = floor_inside c.args.grid.now x it.0 in omega (arith, small, end))) c.loop-cell.invariant
