use Rattle.std.proofs.Common.{◌≡◌, ◌++◌, drop}
use Rattle.fleet_sim.specs.Table.{values_of}
use Rattle.fleet_sim.proofs.line.push_values.Given as goal

abbrev pub invariant-loop-run : goal.invariant-loop-run
invariant-loop-run l = l.values.items ++ values_of l.column (drop l.run-index l.runs) ≡ l.fn.values.items ++ values_of l.column l.runs
