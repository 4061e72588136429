use Rattle.std.proofs.Common.{◌≡◌, ◌+◌, ◌≤◌, length}
use Rattle.fleet_map.specs.Text.{lines_of}
use Rattle.fleet_plans.specs.Schedule.{schedule_of}
use Rattle.fleet_plans.proofs.schedule.read_lines.Given as goal

abbrev pub invariant-loop-line : goal.invariant-loop-line
invariant-loop-line l = record {
  read : schedule_of l.sides.width l.sides.height l.number (lines_of l.rest) ≡ schedule_of l.sides.width l.sides.height 1 (lines_of l.text);
  room : l.number + length l.rest ≤ 1 + length l.text;
}

abbrev pub decreases-loop-line : goal.decreases-loop-line
decreases-loop-line l = length l.rest
