-- The robots before this one are on their cells.
use Rattle.std.proofs.Common.{◌≡◌, ℕ, ◌<◌, get_or}
use Rattle.fleet_execution.specs.Course.{Course}
use Rattle.live_vehicles.specs.Follows.{Follows}
use Rattle.live_vehicles.proofs.regaining.are_at.Given as goal

abbrev pub invariant-loop-robot : goal.invariant-loop-robot
invariant-loop-robot l = (o : Course) → Follows l.vehicles o → (r : ℕ) → r < l.robot → o.run.plan.cell (o.run.reached r) r ≡ get_or l.at r 0
