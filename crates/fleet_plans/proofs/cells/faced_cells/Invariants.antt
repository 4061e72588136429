use Rattle.std.proofs.Common.{◌+◌, ◌≤◌, length}
use Rattle.fleet_plans.specs.Cells.{parts_of}
use Rattle.fleet_plans.proofs.Parts.{AreFaced}
use Rattle.fleet_plans.proofs.cells.faced_cells.Given as goal

abbrev pub invariant-loop-first : goal.invariant-loop-first
invariant-loop-first g l = record {
  read : AreFaced l.sides.width l.sides.height (parts_of l.text) l.cells.items (parts_of l.rest);
  few : length l.cells.items + length l.rest ≤ length l.text;
}

abbrev pub decreases-loop-first : goal.decreases-loop-first
decreases-loop-first g l = length l.rest
