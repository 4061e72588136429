use Rattle.fleet_grid.specs.Floor.{IsNeighbour}
use Rattle.fleet_bridge.specs.inside.Listed.{AreListedBelow}
use Rattle.fleet_bridge.proofs.listed.push_all.Given as goal

abbrev pub invariant-loop-cell : goal.invariant-loop-cell
invariant-loop-cell g l = AreListedBelow (IsNeighbour l.sides) l.cell l.list.items
