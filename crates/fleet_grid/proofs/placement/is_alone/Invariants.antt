use Rattle.std.proofs.Common.{ℕ, ◌<◌, ◌≢◌, slice_index}
use Rattle.fleet_grid.proofs.placement.is_alone.Given as goal

abbrev pub invariant-loop-lower : goal.invariant-loop-lower
invariant-loop-lower l = (i : ℕ) → i < l.lower → slice_index l.cells i ≢ slice_index l.cells l.upper
