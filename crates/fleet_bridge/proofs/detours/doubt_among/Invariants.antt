use Rattle.std.proofs.Common.{ℕ, ◌<◌}
use Rattle.fleet_bridge.specs.inside.Places.{HasNoneAt}
use Rattle.fleet_bridge.proofs.detours.doubt_among.Given as goal

abbrev pub invariant-loop-at : goal.invariant-loop-at
invariant-loop-at g l = (v : ℕ) → v < l.at → HasNoneAt l.places.grid.now l.places.stride v
