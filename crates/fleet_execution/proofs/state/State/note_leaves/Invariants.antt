use Rattle.std.proofs.Common.{◌≡◌, ℕ, ◌<◌, length}
use Rattle.fleet_execution.specs.Stepped.{IsNoted}
use Rattle.fleet_execution.specs.State.{desk_of}
use Rattle.fleet_execution.proofs.state.State.note_leaves.Given as goal

abbrev pub invariant-loop-robot : goal.invariant-loop-robot
invariant-loop-robot g l = record {
  rest : l.self ≡ record l.fn.self { leaves = l.self.leaves };
  cells : length l.self.leaves ≡ length l.fn.self.leaves;
  noted : (c : ℕ) → c < length l.fn.self.leaves → IsNoted (desk_of l.fn.self) l.to (desk_of l.self).leave l.robot c;
}
