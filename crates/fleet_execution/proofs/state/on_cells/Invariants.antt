use Rattle.std.proofs.Common.{◌≡◌, ℕ, ◌<◌, length, get_or}
use Rattle.fleet_execution.specs.State.{nobody, standing_on}
use Rattle.fleet_execution.proofs.state.on_cells.Given as goal

abbrev pub invariant-loop-robot : goal.invariant-loop-robot
invariant-loop-robot g l = record {
  size : length l.robots ≡ length l.placement;
  robots : (r : ℕ) → r < l.robot → get_or l.robots r nobody ≡ standing_on (get_or l.placement r 0);
}
