use Rattle.std.proofs.Common.{◌≡◌, ◌<◌, ℕ, [], slice_index, slice_index_or}
use Rattle.fleet_plans.specs.Paths.{path_at}
use Rattle.fleet_plans.proofs.follow.place_all.Given as goal

abbrev pub invariant-loop-robot : goal.invariant-loop-robot
invariant-loop-robot l = (r : ℕ) → r < l.robot → slice_index l.place r ≡ path_at (slice_index_or l.paths r []) l.time
