use Rattle.std.proofs.Common.{◌≡◌, ◌<◌, ◌⊎◌, ℕ, slice_index}
use Rattle.fleet_grid.specs.Floor.{IsNeighbour}
use Rattle.fleet_check.proofs.free.are_moves.Given as goal

abbrev pub invariant-loop-robot : goal.invariant-loop-robot
invariant-loop-robot g l = record {
  moved : (r : ℕ) → r < l.robot → (slice_index l.to r ≡ slice_index l.from r) ⊎ IsNeighbour l.grid (slice_index l.from r) (slice_index l.to r);
}
