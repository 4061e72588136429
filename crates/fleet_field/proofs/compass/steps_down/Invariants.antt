use Rattle.std.proofs.Common.{◌≡◌, ◌≤◌, ◌-◌, length}
use Rattle.fleet_field.specs.Compass.{steps_down}
use Rattle.fleet_field.proofs.compass.steps_down.Given as goal

abbrev pub invariant-loop-taken : goal.invariant-loop-taken
invariant-loop-taken l = record {
  end : l.taken-end ≡ length l.ways;
  below : l.taken ≤ l.taken-end;
  same : steps_down l.width l.ways l.goal (length l.ways - l.taken) l.taken l.cell ≡ steps_down l.width l.ways l.goal (length l.ways) 0 l.fn.cell;
}
