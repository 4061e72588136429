use Rattle.fleet_serve.specs.Posted.{KeepsSent}
use Rattle.fleet_serve.proofs.served_client.collect_all.Given as goal

abbrev pub invariant-loop : goal.invariant-loop
invariant-loop g l = KeepsSent l.fn.guest l.guest
