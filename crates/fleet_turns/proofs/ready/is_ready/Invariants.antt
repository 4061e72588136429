use Rattle.std.proofs.Common.{ℕ, ◌<◌, slice_index}
use Rattle.fleet_pibt.specs.Order.{wait_of}
use Rattle.fleet_planner.specs.Lending.{goal_at}
use Rattle.fleet_turns.specs.Planning.{IsReadyAt}
use Rattle.fleet_turns.proofs.ready.is_ready.Given as goal

abbrev pub invariant-loop-robot : goal.invariant-loop-robot
invariant-loop-robot g l = (r : ℕ) → r < l.robot → IsReadyAt l.grid (slice_index l.cells r) (goal_at l.goals r) (wait_of l.waits r)
