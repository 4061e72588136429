use Rattle.std.proofs.Common.{◌≡◌, ℕ, ◌+◌, ◌-◌, ◌<◌, ◌≤◌}
use Rattle.fleet_execution.specs.State.{desk_of}
use Rattle.fleet_execution.proofs.state.State.next.Given as goal

abbrev pub invariant-loop-step : goal.invariant-loop-step
invariant-loop-step g l = record {
  at : l.state ≡ (desk_of l.self).robot l.robot;
  low : l.state.returned ≤ l.step;
  kept : l.self.steps ≤ l.step + l.self.ahead;
  passed : (u : ℕ) → l.state.returned < u → l.self.steps < u + l.self.ahead → u ≤ l.step → ((desk_of l.self).window l.robot u).to ≡ l.state.bound;
}

abbrev pub decreases-loop-step : goal.decreases-loop-step
decreases-loop-step g l = l.self.steps - l.step
