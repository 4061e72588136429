use Rattle.std.proofs.Common.{◌≡◌, ◌+◌, ◌≤◌, length}
use Rattle.fleet_map.specs.Text.{lines_of}
use Rattle.fleet_script.specs.Script.{draft_of, script_of}
use Rattle.fleet_script.specs.Shown.{shown}
use Rattle.fleet_script.proofs.script.read_runs.Given as goal

abbrev pub invariant-loop-line : goal.invariant-loop-line
invariant-loop-line g l = record {
  read : draft_of (shown l.draft) l.number (lines_of l.rest) ≡ script_of l.bytes;
  room : l.number + length l.rest ≤ 1 + length l.bytes;
}

abbrev pub decreases-loop-line : goal.decreases-loop-line
decreases-loop-line g l = length l.rest
