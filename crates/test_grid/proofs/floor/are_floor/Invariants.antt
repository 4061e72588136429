use Rattle.std.proofs.Common.{ℕ, ◌<◌, slice_index}
use Rattle.fleet_grid.specs.Floor.{IsFloor}
use Rattle.test_grid.proofs.floor.are_floor.Given as goal

abbrev pub invariant-loop-at : goal.invariant-loop-at
invariant-loop-at l = (k : ℕ) → k < l.at → IsFloor l.grid (slice_index l.cells k)
