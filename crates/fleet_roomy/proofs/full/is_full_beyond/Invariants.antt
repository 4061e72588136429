use Rattle.std.proofs.Common.{◌≡◌, ◌<◌, ℕ, length}
use Rattle.std.specs.Prelude.{slice_index}
use Rattle.fleet_grid.specs.Floor.{IsNeighbour}
use Rattle.fleet_grid.specs.Walk.{Besides}
use Rattle.fleet_roomy.specs.inside.Found.{AreFound, Has}
use Rattle.fleet_roomy.proofs.full.is_full_beyond.Given as goal

-- from the first robots one has gone on
abbrev pub invariant-loop-at : goal.invariant-loop-at
invariant-loop-at g l = record {
  found : AreFound l.grid l.cells l.from l.to l.found.seen.items l.found.robots.items;
  start : Has l.cells l.found.robots.items l.to;
  closed : (k : ℕ) → k < l.at → (y : ℕ) → Besides (IsNeighbour l.grid) l.from l.to (slice_index l.cells (slice_index l.found.robots.items k)) y → Has l.cells l.found.robots.items y;
  within : (k : ℕ) → k < l.at → k < length l.found.robots.items;
}
