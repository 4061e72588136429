use Rattle.std.proofs.Common.{◌≡◌, ◌+◌, ◌≤◌, ℕ, [], length, slice_index_or}
use Rattle.fleet_map.specs.Text.{lines_of}
use Rattle.fleet_plans.specs.Tracks.{tracks_of}
use Rattle.fleet_plans.specs.Shown.{texts}
use Rattle.fleet_plans.proofs.tracks.read_tracks.Given as goal

abbrev pub invariant-loop-line : goal.invariant-loop-line
invariant-loop-line g l = record {
  read : tracks_of l.robots (texts l.tracks.items) l.number (lines_of l.rest) ≡ tracks_of l.robots [] l.fn.number (lines_of l.text);
  room : l.number + length l.rest ≤ l.fn.number + length l.text;
  short : (r : ℕ) → length (slice_index_or (texts l.tracks.items) r []) ≤ length l.text;
  rest : length l.rest ≤ length l.text;
}

abbrev pub decreases-loop-line : goal.decreases-loop-line
decreases-loop-line g l = length l.rest
