use Rattle.std.proofs.Common.{◌≡◌, ◌≤◌, [], length}
use Rattle.serde_json.specs.View.{items_view}
use Rattle.fleet_plans.specs.declared.limit.TheConstants.{MOST_PLAN_BYTES}
use Rattle.fleet_plans.specs.Turning.{dirs_of}
use Rattle.fleet_plans.proofs.runners.turning.all_dirs.Given as goal

abbrev pub invariant-loop-value : goal.invariant-loop-value
invariant-loop-value l = record {
  read : dirs_of l.dirs.items (items_view l.rest) ≡ dirs_of [] (items_view l.values);
  few : length l.dirs.items ≤ MOST_PLAN_BYTES;
}

abbrev pub decreases-loop-value : goal.decreases-loop-value
decreases-loop-value l = length l.rest
