use Rattle.std.proofs.Common.{◌≡◌, ◌≢◌, ℕ, ◌<◌, ◌≤◌}
use Rattle.fleet_execution.specs.Desk.{before_in, chain}
use Rattle.fleet_execution.specs.State.{desk_of}
use Rattle.fleet_execution.specs.Asked.{IsLinked, IsReadyIn}
use Rattle.fleet_execution.proofs.state.State.turn.Given as goal

abbrev pub invariant-loop-passed : goal.invariant-loop-passed
invariant-loop-passed g l = record {
  at : l.at ≡ chain (before_in (desk_of l.self).window l.step) l.robot l.passed;
  inside : l.at < l.self.count;
  linked : (j : ℕ) → j < l.passed → IsLinked (desk_of l.self) l.step (chain (before_in (desk_of l.self).window l.step) l.robot j);
  ready : (j : ℕ) → j ≤ l.passed → IsReadyIn (desk_of l.self) l.step (chain (before_in (desk_of l.self).window l.step) l.robot j);
  away : (j : ℕ) → 0 < j → j ≤ l.passed → chain (before_in (desk_of l.self).window l.step) l.robot j ≢ l.robot;
}
