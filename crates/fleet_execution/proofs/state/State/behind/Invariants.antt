use Rattle.std.proofs.Common.{◌≡◌, ℕ, ◌+◌, ◌-◌, ◌%◌, ◌<◌, ◌≤◌}
use Rattle.fleet_execution.specs.State.{desk_of}
use Rattle.fleet_execution.proofs.state.State.behind.Given as goal

abbrev pub invariant-loop-steps : goal.invariant-loop-steps
invariant-loop-steps g l = record {
  late : l.steps ≤ l.self.ahead;
  before : (u : ℕ) → l.steps < u → u ≤ l.self.ahead → u ≤ l.self.steps → (desk_of l.self).unreached ((l.self.steps + 1 - u) % l.self.ahead) ≡ 0;
}

abbrev pub decreases-loop-steps : goal.decreases-loop-steps
decreases-loop-steps g l = l.steps
