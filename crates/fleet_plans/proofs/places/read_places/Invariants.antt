use Rattle.std.proofs.Common.{◌+◌, ◌≤◌, [], length}
use Rattle.fleet_map.specs.Text.{lines_of}
use Rattle.fleet_plans.specs.Places.{places_of}
use Rattle.fleet_plans.specs.Shown.{shown}
use Rattle.fleet_plans.specs.inside.Given.{IsReadTo}
use Rattle.fleet_plans.proofs.places.read_places.Given as goal

abbrev pub invariant-loop-line : goal.invariant-loop-line
invariant-loop-line g l = record {
  read : IsReadTo l.sides.width l.sides.height (shown l.head) l.fn.judge.floor l.number (lines_of l.rest)
      (places_of l.sides.width l.sides.height (shown l.head) [] l.fn.number (lines_of l.text)) l.judge;
  room : l.number + length l.rest ≤ l.fn.number + length l.text;
  count : l.judge.count + l.fn.number ≤ l.number;
}

abbrev pub decreases-loop-line : goal.decreases-loop-line
decreases-loop-line g l = length l.rest
