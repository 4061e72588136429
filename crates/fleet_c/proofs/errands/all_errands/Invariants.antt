use Rattle.std.proofs.Common.{◌≡◌}
use Rattle.fleet_c.specs.inside.Runs.{chores_until}
use Rattle.fleet_c.proofs.errands.all_errands.Given as goal

abbrev pub invariant-loop-client : goal.invariant-loop-client
invariant-loop-client l = l.all.items ≡ chores_until l.core.history l.client
