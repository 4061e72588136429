use Rattle.std.proofs.Common.{◌≡◌, ℕ, ◌<◌}
use Rattle.fleet_execution.specs.Desk.{before_in, chain}
use Rattle.fleet_execution.specs.Executes.{IsIn}
use Rattle.fleet_execution.specs.State.{desk_of}
use Rattle.fleet_execution.proofs.state.State.wake_turn.Given as goal

abbrev pub invariant-loop-passed : goal.invariant-loop-passed
invariant-loop-passed g l = record {
  at : l.at ≡ chain (before_in (desk_of l.fn.self).window l.step) l.robot l.passed;
  rest : l.self ≡ record l.fn.self { ready = l.self.ready };
  robots : l.self.ready.robots ≡ l.fn.self.ready.robots;
  keeps : (q : ℕ) → IsIn l.fn.self.ready.items q → IsIn l.self.ready.items q;
  added : (j : ℕ) → j < l.passed → IsIn l.self.ready.items (chain (before_in (desk_of l.fn.self).window l.step) l.robot j);
}
