use Rattle.fleet_grid.proofs.Made.{IsPartly}
use Rattle.fleet_grid.proofs.padded.blank_of.Given as goal

abbrev pub invariant-loop-cell : goal.invariant-loop-cell
invariant-loop-cell g l = IsPartly l.cells l.stride l.cell l.blank.items
