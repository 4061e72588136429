use Rattle.std.proofs.Common.{ℕ, ◌<◌, length, slice_index}
use Rattle.fleet_grid.specs.Floor.{IsFloor}
use Rattle.fleet_planner.proofs.ahead.goals_ahead.Given as goal

abbrev pub invariant-loop-queue : goal.invariant-loop-queue
invariant-loop-queue g l = (i : ℕ) → i < length l.goals.items → IsFloor l.grid (slice_index l.goals.items i)
