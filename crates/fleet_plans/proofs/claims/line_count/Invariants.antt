use Rattle.std.proofs.Common.{◌≡◌, ◌+◌, ◌≤◌, length}
use Rattle.fleet_map.specs.Text.{lines_of}
use Rattle.fleet_plans.proofs.claims.line_count.Given as goal

abbrev pub invariant-loop-line : goal.invariant-loop-line
invariant-loop-line l = record {
  counted : l.count + length (lines_of l.rest) ≡ length (lines_of l.text);
  room : l.count + length l.rest ≤ length l.text;
}

abbrev pub decreases-loop-line : goal.decreases-loop-line
decreases-loop-line l = length l.rest
