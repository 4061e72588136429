use Rattle.std.proofs.Common.{◌≡◌, ◌+◌, ◌≤◌, length}
use Rattle.fleet_plans.specs.Cells.{parts_of}
use Rattle.fleet_plans.specs.Turning.{turned}
use Rattle.fleet_plans.proofs.Parts.{joined}
use Rattle.fleet_plans.proofs.runners.turning.turned.Given as goal

abbrev pub invariant-loop-part : goal.invariant-loop-part
invariant-loop-part l = record {
  read : turned l.fn.dir (parts_of l.text) ≡ joined l.letters.items (turned l.ahead (parts_of l.rest));
  few : length l.letters.items + length l.rest ≤ length l.text;
}

abbrev pub decreases-loop-part : goal.decreases-loop-part
decreases-loop-part l = length l.rest
