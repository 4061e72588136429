use Rattle.std.proofs.Common.{ℕ, ◌<◌, slice_index}
use Rattle.fleet_grid.specs.Floor.{IsFloor}
use Rattle.fleet_shield.proofs.checks.first_off_floor.Given as goal

abbrev pub invariant-loop-robot : goal.invariant-loop-robot
invariant-loop-robot g l = (r : ℕ) → r < l.robot → IsFloor l.grid (slice_index l.from r)
