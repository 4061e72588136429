use Rattle.std.proofs.Common.{ℕ, ◌≤◌, ◌+◌, ◌-◌, length, take}
use Rattle.fleet_field.specs.inside.Search.{Search, IsStart, SameWalls, far_count}
use Rattle.fleet_field.proofs.flood.spread_all.Given as goal

abbrev pub invariant-loop-count : goal.invariant-loop-count
invariant-loop-count g l = record {
  within : l.count ≤ length l.now.items;
  search : Search l.dist l.stride l.level l.level (take l.count l.now.items);
  walls : SameWalls l.fn.dist l.dist;
  start : (goal : ℕ) → IsStart l.fn.dist goal → IsStart l.dist goal;
  count : l.level + l.count + far_count l.dist ≤ length l.dist;
}

abbrev pub decreases-loop-count : goal.decreases-loop-count
decreases-loop-count g l = length l.fn.dist + 1 - l.level
