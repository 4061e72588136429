use Rattle.std.proofs.Common.{◌≡◌, ◌+◌, ◌≤◌, length}
use Rattle.fleet_map.specs.Text.{lines_of}
use Rattle.fleet_plans.specs.Reading.{head_by}
use Rattle.fleet_plans.specs.Misspelt.{misspelt_of}
use Rattle.fleet_plans.proofs.misspelt.first_misspelt.Given as goal

abbrev pub invariant-loop-line : goal.invariant-loop-line
invariant-loop-line l = record {
  left : misspelt_of l.number (lines_of l.rest) ≡ misspelt_of 1 (head_by l.fn.form l.text);
  room : l.number + length l.rest ≤ 1 + length l.text;
}

abbrev pub decreases-loop-line : goal.decreases-loop-line
decreases-loop-line l = length l.rest
