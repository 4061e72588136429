use Rattle.std.proofs.Common.{ℕ, ◌<◌, length}
use Rattle.fleet_pibt.specs.Order.{wait_of}
use Rattle.fleet_planner.specs.Lending.{IsRank, goal_at}
use Rattle.fleet_planner.proofs.lending.put_ranks.Given as goal

abbrev pub invariant-loop-robot : goal.invariant-loop-robot
invariant-loop-robot l = (r : ℕ) → r < l.robot → IsRank l.rooms.core.now l.rooms.capacity.now (length l.waits) (goal_at l.goals r) (wait_of l.waits r) (wait_of l.ranks r)
