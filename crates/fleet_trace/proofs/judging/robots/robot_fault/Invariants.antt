use Rattle.std.proofs.Common.{ℕ, ◌<◌, slice_index_or}
use Rattle.fleet_history.specs.declared.history.RobotState.{RobotState}
use Rattle.fleet_history.specs.Legal.{IsRobotInOrder}
use Rattle.fleet_trace.proofs.judging.robots.robot_fault.Given as goal

abbrev pub invariant-loop-r : goal.invariant-loop-r
invariant-loop-r g l = (k : ℕ) (d : RobotState _) → k < l.r → IsRobotInOrder l.grid l.opening (slice_index_or l.opening.robots k d)
