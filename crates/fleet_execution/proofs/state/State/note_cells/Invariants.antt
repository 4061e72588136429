use Rattle.std.proofs.Common.{◌≡◌, ◌≢◌, ℕ, ◌%◌, ◌<◌, None, length, get_or}
use Rattle.fleet_execution.specs.State.{desk_of}
use Rattle.fleet_execution.proofs.state.State.note_cells.Given as goal

abbrev pub invariant-loop-robot : goal.invariant-loop-robot
invariant-loop-robot g l = record {
  rest : l.self ≡ record l.fn.self { window = l.self.window };
  size : length l.self.window ≡ length l.fn.self.window;
  now : (r : ℕ) → r < l.robot → (desk_of l.self).window r l.step ≡ record { to = get_or l.to r 0; after = (desk_of l.fn.self).leave (get_or l.to r 0); follower = None };
  others : (r t : ℕ) → r < l.fn.self.count → t % l.fn.self.ahead ≢ l.step % l.fn.self.ahead → (desk_of l.self).window r t ≡ (desk_of l.fn.self).window r t;
}
