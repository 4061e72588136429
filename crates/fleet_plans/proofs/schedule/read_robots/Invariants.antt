use Rattle.std.proofs.Common.{◌≡◌, ◌+◌, ◌≤◌, length}
use Rattle.fleet_map.specs.Text.{lines_of}
use Rattle.fleet_plans.specs.declared.limit.TheConstants.{MOST_PLAN_BYTES}
use Rattle.fleet_plans.specs.declared.schedule.Part.TheVariants.{Begin}
use Rattle.fleet_plans.specs.Schedule.{robots_of}
use Rattle.fleet_plans.specs.Table.{trails, no_trails, AreShort}
use Rattle.fleet_plans.proofs.schedule.read_robots.Given as goal

abbrev pub invariant-loop-line : goal.invariant-loop-line
invariant-loop-line l = record {
  read :
      robots_of l.sides.width l.sides.height (trails l.paths) l.part l.number (lines_of l.rest)
      ≡ robots_of l.sides.width l.sides.height no_trails Begin l.fn.number (lines_of l.text);
  room : l.number + length l.rest ≤ 2 + MOST_PLAN_BYTES;
  short : AreShort (trails l.paths);
}

abbrev pub decreases-loop-line : goal.decreases-loop-line
decreases-loop-line l = length l.rest
