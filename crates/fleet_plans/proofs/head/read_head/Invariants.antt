use Rattle.std.proofs.Common.{◌≡◌, ◌+◌, ◌≤◌, length}
use Rattle.fleet_map.specs.Text.{lines_of}
use Rattle.fleet_plans.specs.declared.limit.TheConstants.{MOST_PLAN_BYTES}
use Rattle.fleet_plans.specs.Head.{blank_head, head_of}
use Rattle.fleet_plans.specs.Shown.{shown}
use Rattle.fleet_plans.specs.inside.Few.{HasFewStarts}
use Rattle.fleet_plans.proofs.head.read_head.Given as goal

abbrev pub invariant-loop-line : goal.invariant-loop-line
invariant-loop-line g l = record {
  read : head_of l.sides.width l.sides.height (shown l.head) l.number (lines_of l.rest) ≡ head_of l.sides.width l.sides.height blank_head 1 (lines_of l.text);
  room : l.number + length l.rest ≤ 1 + length l.text;
  few : HasFewStarts (shown l.head);
  short : length l.rest ≤ MOST_PLAN_BYTES;
}

abbrev pub decreases-loop-line : goal.decreases-loop-line
decreases-loop-line g l = length l.rest
