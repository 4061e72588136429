use Rattle.std.proofs.Common.{◌≡◌, ℕ, ◌<◌, ◌++◌, length, drop, ap, ◌∙◌, arith}
use Rattle.fleet_c.specs.Floors.{floor_cells}
use Rattle.fleet_c.proofs.FloorCells.{below, below-all, next-place, next-floor, next-wall}
use Rattle.fleet_c.proofs.map_floor.put_floor.Goals as goal
use Rattle.fleet_c.proofs.map_floor.put_floor.Goals.{then-is_floor, else-is_floor}

pub bounds-cells-at : goal.bounds-cells-at
bounds-cells-at c =
    next-place c.args.grid.now c.args.cells.now c.loop-cell.cell c.loop-cell.at c.loop-cell.cells
    (omega (arith, c.cell_count-cell-end.ensures.value, c.loop-cell-test.true)) (c.is_floor.ensures.0 c.if-is_floor.true) c.requires c.loop-cell.invariant

pub loop-cell-preserved : goal.loop-cell-preserved
loop-cell-preserved c =
    let inside : c.loop-cell.cell < length c.args.grid.now.letters = omega (arith, c.cell_count-cell-end.ensures.value, c.loop-cell-test.true) in
    elim c.if-is_floor.branch [
      | then-is_floor w ↦ next-floor c.args.grid.now c.args.cells.now c.loop-cell.cell c.loop-cell.at c.loop-cell.cells c.if-is_floor.at c.if-is_floor.cells
          inside (c.is_floor.ensures.0 w.if-is_floor.true) c.requires c.loop-cell.invariant w.at-is w.cells-is
      | else-is_floor w ↦ next-wall c.args.grid.now c.args.cells.now c.loop-cell.cell c.loop-cell.at c.loop-cell.cells c.if-is_floor.at c.if-is_floor.cells
          c.is_floor.result inside c.is_floor.ensures.1 w.if-is_floor.false c.loop-cell.invariant w.at-is w.cells-is
    ]

pub returns : goal.returns
returns c =
    let m = c.args.grid.now in
    let all : below m c.loop-cell.cell ≡ floor_cells m = below-all m c.loop-cell.cell (omega (arith, c.cell_count-cell-end.ensures.value, c.loop-cell-test.false)) in
    c.loop-cell.invariant.1 ∙ ap (λ t. t ++ drop c.loop-cell.at c.args.cells.now) all ∙ ap (λ (n : ℕ). floor_cells m ++ drop n c.args.cells.now) (c.loop-cell.invariant.0 ∙ ap length all)
