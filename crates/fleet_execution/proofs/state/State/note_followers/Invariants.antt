use Rattle.std.proofs.Common.{◌≡◌, ℕ, length}
use Rattle.fleet_execution.specs.Stepped.{IsTold}
use Rattle.fleet_execution.specs.State.{desk_of}
use Rattle.fleet_execution.proofs.state.State.note_followers.Given as goal

abbrev pub invariant-loop-robot : goal.invariant-loop-robot
invariant-loop-robot g l = record {
  rest : l.self ≡ record l.fn.self { window = l.self.window };
  size : length l.self.window ≡ length l.fn.self.window;
  cells : (r t : ℕ) → ((desk_of l.self).window r t).to ≡ ((desk_of l.fn.self).window r t).to;
  after : (r t : ℕ) → ((desk_of l.self).window r t).after ≡ ((desk_of l.fn.self).window r t).after;
  told : IsTold (desk_of l.fn.self) l.to l.robot (desk_of l.self).window;
}
