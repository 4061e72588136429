use Rattle.std.proofs.Common.{◌≡◌, ◌++◌, drop, map}
use Rattle.std.specs.List.{flat_map}
use Rattle.fleet_stats.specs.Rows.{served_of}
use Rattle.fleet_stats.proofs.errands.push_all_served.Given as goal

abbrev pub invariant-loop-done : goal.invariant-loop-done
invariant-loop-done l = l.served.items ++ flat_map (served_of l.clients (map (λ one. one.items) l.times)) (drop l.done-index l.landed) ≡ l.fn.served.items ++ flat_map (served_of l.clients (map (λ one. one.items) l.times)) l.landed
