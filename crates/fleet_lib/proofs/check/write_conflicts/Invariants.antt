use Rattle.std.proofs.Common.{◌≡◌, ◌++◌, drop, string_bytes}
use Rattle.fleet_lib.specs.Check.{conflicts_text}
use Rattle.fleet_lib.proofs.check.write_conflicts.Given as goal

abbrev pub invariant-loop-conflict : goal.invariant-loop-conflict
invariant-loop-conflict l = string_bytes l.text ++ conflicts_text (drop l.conflict-index l.conflicts) ≡ string_bytes l.fn.text ++ conflicts_text l.conflicts
