use Rattle.std.proofs.Common.{◌≡◌, ◌+◌, ◌≤◌, length}
use Rattle.fleet_map.specs.Text.{lines_of}
use Rattle.fleet_plans.specs.Table.{trails, no_trails, trails_of, AreShort}
use Rattle.fleet_plans.proofs.table.read_trails.Given as goal

abbrev pub invariant-loop-line : goal.invariant-loop-line
invariant-loop-line l = record {
  read : trails_of l.sides.width l.sides.height (trails l.found) l.number (lines_of l.rest) ≡ trails_of l.sides.width l.sides.height no_trails 2 (lines_of l.text);
  room : l.number + length l.rest ≤ 2 + length l.text;
  short : AreShort (trails l.found);
}

abbrev pub decreases-loop-line : goal.decreases-loop-line
decreases-loop-line l = length l.rest
