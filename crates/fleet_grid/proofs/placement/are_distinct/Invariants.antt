use Rattle.std.proofs.Common.{ℕ, ◌<◌, ◌≢◌, slice_index}
use Rattle.fleet_grid.proofs.placement.are_distinct.Given as goal

abbrev pub invariant-loop-upper : goal.invariant-loop-upper
invariant-loop-upper l = (i j : ℕ) → i < j → j < l.upper → slice_index l.cells i ≢ slice_index l.cells j
