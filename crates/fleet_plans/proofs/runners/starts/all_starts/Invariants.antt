use Rattle.std.proofs.Common.{◌≡◌, ◌≤◌, [], length}
use Rattle.serde_json.specs.View.{items_view}
use Rattle.fleet_plans.specs.declared.limit.TheConstants.{MOST_PLAN_BYTES}
use Rattle.fleet_plans.specs.Runners.{starts_of}
use Rattle.fleet_plans.proofs.runners.starts.all_starts.Given as goal

abbrev pub invariant-loop-value : goal.invariant-loop-value
invariant-loop-value l = record {
  read : starts_of l.sides.width l.sides.height l.cells.items (items_view l.rest) ≡ starts_of l.sides.width l.sides.height [] (items_view l.values);
  few : length l.cells.items ≤ MOST_PLAN_BYTES;
}

abbrev pub decreases-loop-value : goal.decreases-loop-value
decreases-loop-value l = length l.rest
