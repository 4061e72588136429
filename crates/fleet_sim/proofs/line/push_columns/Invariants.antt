use Rattle.std.proofs.Common.{drop}
use Rattle.fleet_sim.proofs.Spreads.{Completes}
use Rattle.fleet_sim.proofs.line.push_columns.Given as goal

abbrev pub invariant-loop-column : goal.invariant-loop-column
invariant-loop-column l = Completes l.columns l.runs l.fn.cells.items (drop l.column-index l.columns) l.cells.items
