use Rattle.std.proofs.Common.{◌≡◌, ◌+◌, ◌≤◌, length}
use Rattle.fleet_plans.specs.Agents.{pieces, cells_led}
use Rattle.fleet_plans.proofs.Parts.{joined}
use Rattle.fleet_plans.proofs.agents.cells_of.Given as goal

abbrev pub invariant-loop-part : goal.invariant-loop-part
invariant-loop-part l = record {
  read : cells_led l.sides.width l.sides.height 32 (pieces l.text) ≡ joined l.cells.items (cells_led l.sides.width l.sides.height l.lead (pieces l.rest));
  few : length l.cells.items + length l.rest ≤ length l.text;
}

abbrev pub decreases-loop-part : goal.decreases-loop-part
decreases-loop-part l = length l.rest
