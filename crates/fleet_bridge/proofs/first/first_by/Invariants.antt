use Rattle.fleet_bridge.specs.inside.First.{HasNoneBelow}
use Rattle.fleet_bridge.proofs.first.first_by.Given as goal

abbrev pub invariant-loop-cell : goal.invariant-loop-cell
invariant-loop-cell g l = HasNoneBelow l.sides l.cell
