use Rattle.std.proofs.Common.{◌≡◌, ◌++◌, drop}
use Rattle.fleet_script.specs.Runs.{unrolled}
use Rattle.fleet_script.proofs.runs.events_of.Given as goal

abbrev pub invariant-loop-run : goal.invariant-loop-run
invariant-loop-run g l = l.events.items ++ unrolled (drop l.run-index l.runs) ≡ unrolled l.runs
