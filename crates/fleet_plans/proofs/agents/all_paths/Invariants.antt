use Rattle.std.proofs.Common.{◌≡◌, ◌+◌, ◌≤◌, ℕ, [], length, drop, slice_index_or}
use Rattle.fleet_map.specs.Text.{lines_of}
use Rattle.fleet_plans.specs.declared.limit.TheConstants.{MOST_PLAN_BYTES}
use Rattle.fleet_plans.specs.Agents.{AreAgents}
use Rattle.fleet_plans.proofs.agents.all_paths.Given as goal

abbrev pub invariant-loop-line : goal.invariant-loop-line
invariant-loop-line l = record {
  read : AreAgents l.sides.width l.sides.height (lines_of l.text) (length l.paths.items) l.paths.items;
  left : drop (length l.paths.items) (lines_of l.text) ≡ lines_of l.rest;
  inside : length l.paths.items ≤ length (lines_of l.text);
  room : length l.paths.items + length l.rest ≤ length l.text;
  short : (r : ℕ) → length (slice_index_or l.paths.items r []) ≤ MOST_PLAN_BYTES;
}

abbrev pub decreases-loop-line : goal.decreases-loop-line
decreases-loop-line l = length l.rest
