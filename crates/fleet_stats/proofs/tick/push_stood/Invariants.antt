use Rattle.std.proofs.Common.{◌≡◌, ◌++◌}
use Rattle.fleet_stats.specs.Noted.{stood_below}
use Rattle.fleet_stats.proofs.tick.push_stood.Given as goal

abbrev pub invariant-loop-robot : goal.invariant-loop-robot
invariant-loop-robot l = l.cells.items ≡ l.fn.cells.items ++ stood_below l.waits l.from l.to l.robot
