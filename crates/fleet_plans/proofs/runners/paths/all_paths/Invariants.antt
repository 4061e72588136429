use Rattle.std.proofs.Common.{◌≡◌, ◌≤◌, ℕ, [], length, slice_index_or}
use Rattle.serde_json.specs.View.{items_view}
use Rattle.fleet_plans.specs.declared.limit.TheConstants.{MOST_PLAN_BYTES}
use Rattle.fleet_plans.specs.Runners.{paths_of}
use Rattle.fleet_plans.proofs.runners.paths.all_paths.Given as goal

abbrev pub invariant-loop-value : goal.invariant-loop-value
invariant-loop-value l = record {
  read : paths_of l.key l.robots l.tracks.items (items_view l.rest) ≡ paths_of l.key l.robots [] (items_view l.values);
  few : length l.tracks.items ≤ l.robots;
  short : (r : ℕ) → length (slice_index_or l.tracks.items r []) ≤ MOST_PLAN_BYTES;
}

abbrev pub decreases-loop-value : goal.decreases-loop-value
decreases-loop-value l = length l.rest
