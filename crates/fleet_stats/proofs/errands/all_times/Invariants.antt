use Rattle.std.proofs.Common.{◌≡◌, map}
use Rattle.fleet_stats.specs.Rows.{all_times}
use Rattle.fleet_stats.proofs.errands.all_times.Given as goal

abbrev pub invariant-loop-client : goal.invariant-loop-client
invariant-loop-client l = map (λ one. one.items) l.times.items ≡ all_times l.taken l.client
