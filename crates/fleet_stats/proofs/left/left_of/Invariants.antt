use Rattle.std.proofs.Common.{◌≡◌}
use Rattle.fleet_state.specs.Robots.{queue_at}
use Rattle.fleet_stats.specs.Noted.{left_below}
use Rattle.fleet_stats.proofs.left.left_of.Given as goal

abbrev pub invariant-loop-robot : goal.invariant-loop-robot
invariant-loop-robot l = l.left.items ≡ left_below (λ r. (queue_at l.queues r).items) l.robot
