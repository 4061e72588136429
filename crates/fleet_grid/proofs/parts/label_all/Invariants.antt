use Rattle.std.proofs.Common.{ℕ, ◌<◌}
use Rattle.fleet_grid.specs.Floor.{IsFloor}
use Rattle.fleet_grid.specs.inside.Parts.{AreDone, HasLabel}
use Rattle.fleet_grid.proofs.parts.label_all.Given as goal

abbrev pub invariant-loop-cell : goal.invariant-loop-cell
invariant-loop-cell g l = record {
  done : AreDone l.cells l.labels;
  has : (c : ℕ) → c < l.cell → IsFloor l.cells c → HasLabel l.labels c;
}
