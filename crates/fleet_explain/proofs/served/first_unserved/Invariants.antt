use Rattle.std.proofs.Common.{◌≡◌, drop}
use Rattle.fleet_script.specs.Runs.{unrolled, numbered}
use Rattle.fleet_explain.specs.Served.{first_unserved}
use Rattle.fleet_explain.proofs.served.first_unserved.Given as goal

abbrev pub invariant-loop-run : goal.invariant-loop-run
invariant-loop-run l = first_unserved l.clients (unrolled (drop l.run-index l.runs)) (numbered (drop l.run-index l.runs)) ≡ first_unserved l.clients (unrolled l.runs) (numbered l.runs)
