use Rattle.std.proofs.Common.{◌≡◌, ℕ, ◌<◌, ◌≤◌, None, map, slice_index, slice_index_or}
use Rattle.fleet_planner.specs.Courses.{growth_in}
use Rattle.fleet_planner.specs.Searched.{IsTold, IsUntoldAt}
use Rattle.fleet_planner.proofs.searching.count_lacking.Given as goal

abbrev pub invariant-loop-robot : goal.invariant-loop-robot
invariant-loop-robot g l = record {
  none : l.count ≡ 0 → (r : ℕ) → r < l.robot → IsTold l.grid (slice_index_or (map growth_in l.own) r None) (slice_index l.cells r);
  some : 0 < l.count → (r : ℕ) × IsUntoldAt l.grid (map growth_in l.own) l.cells r;
  few : l.count ≤ l.robot;
}
