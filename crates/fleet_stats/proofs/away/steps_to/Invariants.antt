use Rattle.std.proofs.Common.{◌≡◌, ◌≤◌, length}
use Rattle.fleet_grid.specs.Distance.{distance}
use Rattle.fleet_grid.specs.Floor.{IsFloor}
use Rattle.fleet_field.specs.Growing.{goal_of, Serves}
use Rattle.fleet_stats.specs.inside.Steps.{after}
use Rattle.fleet_stats.proofs.away.steps_to.Given as goal

abbrev pub invariant-loop-taken : goal.invariant-loop-taken
invariant-loop-taken l = record {
  end : l.taken-end ≡ length l.grid.letters;
  below : l.taken ≤ l.taken-end;
  serves : Serves l.grid l.field;
  aimed : goal_of l.field ≡ goal_of l.fn.field;
  is : l.goal ≡ goal_of l.fn.field;
  floor : IsFloor l.grid l.cell;
  same : after l.taken (distance l.grid l.cell l.goal) ≡ distance l.grid l.fn.from (goal_of l.fn.field);
}
