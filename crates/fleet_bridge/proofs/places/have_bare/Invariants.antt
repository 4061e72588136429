use Rattle.std.proofs.Common.{◌≡◌, ℕ, ◌<◌, ◌≤◌, false}
use Rattle.fleet_bridge.specs.inside.Places.{HasNoneAt}
use Rattle.fleet_bridge.proofs.places.have_bare.Given as goal

abbrev pub invariant-loop-at : goal.invariant-loop-at
invariant-loop-at g l = l.any ≡ false → (v : ℕ) → l.from ≤ v → v < l.at → HasNoneAt l.places.grid.now l.places.stride v
