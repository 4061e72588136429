use Rattle.std.proofs.Common.{◌≡◌, ◌++◌, drop}
use Rattle.fleet_view.specs.Runs.{conflicts_text}
use Rattle.fleet_view.proofs.runs.write_conflicts.Given as goal

abbrev pub invariant-loop-conflict : goal.invariant-loop-conflict
invariant-loop-conflict l = l.out.items ++ conflicts_text (drop l.conflict-index l.conflicts) ≡ l.fn.out.items ++ conflicts_text l.conflicts
