use Rattle.std.proofs.Common.{◌≡◌, ◌++◌, drop}
use Rattle.fleet_script.specs.Runs.{numbered}
use Rattle.fleet_script.proofs.runs.lines_of.Given as goal

abbrev pub invariant-loop-run : goal.invariant-loop-run
invariant-loop-run g l = l.lines.items ++ numbered (drop l.run-index l.runs) ≡ numbered l.runs
