use Rattle.std.proofs.Common.{ℕ, ◌-◌, ◌<◌, ◌≤◌}
use Rattle.fleet_bridge.specs.inside.Places.{HasNoneAt}
use Rattle.fleet_bridge.proofs.detours.doubt_in.Given as goal

abbrev pub invariant-loop-from : goal.invariant-loop-from
invariant-loop-from g l = record {
  begun : l.places.stride ≤ l.from;
  none : (v : ℕ) → v < l.from → HasNoneAt l.places.grid.now l.places.stride v;
}

abbrev pub decreases-loop-from : goal.decreases-loop-from
decreases-loop-from g l = l.end - l.from
