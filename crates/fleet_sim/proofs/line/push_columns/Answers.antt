-- One more column, and the end.
use Rattle.std.proofs.Common.{refl}
use Rattle.fleet_sim.proofs.Spreads.{next, finished}
use Rattle.fleet_sim.proofs.line.push_columns.Goals as goal

pub loop-column-preserved : goal.loop-column-preserved
loop-column-preserved c =
    next c.args.columns.now c.loop-column.column-index _ _ c.args.runs.now c.args.cells.now.items c.loop-column.cells.items c.push_spread.new.cells.items c.loop-column-test.true refl c.in_ok-push_spread.ensures c.loop-column.invariant

pub returns : goal.returns
returns c = finished c.args.columns.now c.loop-column.column-index c.args.runs.now c.args.cells.now.items c.loop-column.cells.items c.loop-column-test.false c.loop-column.invariant
