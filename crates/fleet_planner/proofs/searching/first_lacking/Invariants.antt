use Rattle.std.proofs.Common.{ℕ, ◌<◌, None, map, slice_index, slice_index_or}
use Rattle.fleet_planner.specs.Courses.{growth_in}
use Rattle.fleet_planner.specs.Searched.{IsTold}
use Rattle.fleet_planner.proofs.searching.first_lacking.Given as goal

abbrev pub invariant-loop-robot : goal.invariant-loop-robot
invariant-loop-robot g l = (r : ℕ) → r < l.robot → IsTold l.grid (slice_index_or (map growth_in l.own) r None) (slice_index l.cells r)
