use Rattle.std.proofs.Common.{◌≡◌, ℕ, ◌<◌, ◌≤◌, length, get_or}
use Rattle.fleet_execution.specs.State.{desk_of}
use Rattle.fleet_execution.proofs.state.State.note_last.Given as goal

abbrev pub invariant-loop-robot : goal.invariant-loop-robot
invariant-loop-robot g l = record {
  rest : l.self ≡ record l.fn.self { robots = l.self.robots };
  size : length l.self.robots ≡ length l.fn.self.robots;
  last : (r : ℕ) → r < l.robot → (desk_of l.self).robot r ≡ record ((desk_of l.fn.self).robot r) { last = get_or l.to r 0 };
  others : (r : ℕ) → l.robot ≤ r → (desk_of l.self).robot r ≡ (desk_of l.fn.self).robot r;
}
