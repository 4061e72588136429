use Rattle.std.proofs.Common.{◌≡◌, ◌+◌, ◌≤◌, [], length}
use Rattle.fleet_map.specs.Text.{lines_of}
use Rattle.fleet_plans.specs.Scenario.{trips_of}
use Rattle.fleet_plans.proofs.scenario.read_trips.Given as goal

abbrev pub invariant-loop-line : goal.invariant-loop-line
invariant-loop-line l = record {
  read :
      trips_of l.sides.width l.sides.height (record { starts = l.starts.items; goals = l.goals.items }) l.number (lines_of l.rest)
      ≡ trips_of l.sides.width l.sides.height (record { starts = []; goals = [] }) 2 (lines_of l.text);
  room : l.number + length l.rest ≤ 2 + length l.text;
}

abbrev pub decreases-loop-line : goal.decreases-loop-line
decreases-loop-line l = length l.rest
