use Rattle.std.proofs.Common.{◌≤◌, arith}
use Rattle.fleet_reopen.proofs.Far.{field-within, farthest-begins, farthest-goes, farthest-all}
use Rattle.fleet_reopen.proofs.reach.farthest.Goals as goal

pub loop-cell-init : goal.loop-cell-init
loop-cell-init g c = farthest-begins c.args.grid.now c.args.from

pub loop-cell-preserved : goal.loop-cell-preserved
loop-cell-preserved g c =
    farthest-goes c.args.grid.now c.args.from c.loop-cell.cell c.loop-cell.far.edges c.farther-far.result.edges c.in_ok-field.field c.at.result c.in_ok-field.ensures c.at.ensures
    c.loop-cell.invariant
    (c.farther-far.ensures.most _ c.loop-cell.invariant.within (field-within c.args.grid.now c.args.from c.loop-cell.cell c.in_ok-field.field c.at.result c.in_ok-field.ensures c.at.ensures))
    c.farther-far.ensures.far c.farther-far.ensures.edges

pub returns-clause-within : goal.returns-clause-within
returns-clause-within g c = c.loop-cell.invariant.within

pub returns-clause-wide : goal.returns-clause-wide
returns-clause-wide g c = farthest-all c.args.grid.now c.args.from c.loop-cell.cell c.loop-cell.far.edges c.in_ok-field.field c.in_ok-field.ensures c.loop-cell.invariant
    (omega (arith, c.loop-cell-test.false, c.cell_count-cell-end.ensures.value))
