use Rattle.std.proofs.Common.{◌≡◌, ◌+◌, ◌≤◌, [], length}
use Rattle.fleet_plans.specs.Cells.{parts_of}
use Rattle.fleet_plans.specs.Runners.{track_of}
use Rattle.fleet_plans.proofs.runners.paths.track_of.Given as goal

abbrev pub invariant-loop-part : goal.invariant-loop-part
invariant-loop-part l = record {
  read : track_of l.letters.items (parts_of l.rest) ≡ track_of [] (parts_of l.text);
  few : length l.letters.items + length l.rest ≤ length l.text;
}

abbrev pub decreases-loop-part : goal.decreases-loop-part
decreases-loop-part l = length l.rest
