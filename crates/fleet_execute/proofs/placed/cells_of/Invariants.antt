-- The cells of the placements before this one.
use Rattle.std.proofs.Common.{◌≡◌, take}
use Rattle.fleet_execute.specs.Placed.{all_cells}
use Rattle.fleet_execute.proofs.placed.cells_of.Given as goal

abbrev pub invariant-loop-time : goal.invariant-loop-time
invariant-loop-time l = l.cells.items ≡ all_cells (take l.time l.places)
