use Rattle.std.proofs.Common.{◌≡◌, ◌%◌, ◌<◌, ◌≤◌, vec_len, vec_capacity}
use Rattle.fleet_grid.proofs.Opens.{AreWaysTo}
use Rattle.fleet_grid.proofs.ways.ways_of.Given as goal

abbrev pub invariant-loop-cell : goal.invariant-loop-cell
invariant-loop-cell g l = record {
  column : 0 < l.width → l.column ≡ l.cell % l.width;
  ways : AreWaysTo l.cells l.cell l.ways.items;
  len : vec_len l.ways ≡ l.cell;
  room : l.count ≤ vec_capacity l.ways;
  far : l.cell ≤ l.count;
}
