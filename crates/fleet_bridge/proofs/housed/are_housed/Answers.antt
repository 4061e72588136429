use Rattle.std.proofs.Common.{◌≡◌, length, below_more, refl, ap, ◌∙◌, arith}
use Rattle.fleet_grid.proofs.Forms.{floor_inside}
use Rattle.fleet_bridge.proofs.housed.are_housed.Goals as goal

pub loop-cell-preserved : goal.loop-cell-preserved
loop-cell-preserved g c = below_more _ _ c.loop-cell.invariant (c.if-not-is_housed_or_wall.ensures refl)

pub returns : goal.returns
returns g c = λ yes cell floor.
    let cells : c.cell_count-cell-end.result ≡ length c.args.sides.now.letters = c.cell_count-cell-end.ensures.value ∙ ap (λ m. length m.letters) c.grid.ensures in
    c.loop-cell.invariant cell (omega (arith, floor_inside c.args.sides.now cell floor, cells, c.loop-cell-test.false)) floor
