use Rattle.std.proofs.Common.{◌+◌, ◌-◌, ◌≤◌}
use Rattle.fleet_execution.specs.Course.{Course}
use Rattle.fleet_execution.specs.Executes.{Executes}
use Rattle.fleet_execution.specs.State.{desk_of}
use Rattle.fleet_execution.proofs.Left.{IsCounted}
use Rattle.fleet_execution.proofs.state.State.left.Given as goal

-- a move at most for each step that was looked at, and those that were counted
abbrev pub invariant-loop-step : goal.invariant-loop-step
invariant-loop-step g l = record {
  low : ((desk_of l.self).robot l.robot).returned ≤ l.step;
  few : l.left + l.self.steps ≤ l.step + l.self.ahead;
  kept : l.self.steps ≤ l.step + l.self.ahead;
  counted : (o : Course) → Executes (desk_of l.self) o → IsCounted o l.robot l.step l.cell l.left;
}

abbrev pub decreases-loop-step : goal.decreases-loop-step
decreases-loop-step g l = l.self.steps - l.step
