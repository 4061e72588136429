use Rattle.fleet_bridge.specs.inside.Tree.{AreUnder}
use Rattle.fleet_bridge.proofs.reach.hand_all_up.Given as goal

abbrev pub invariant-loop-cell : goal.invariant-loop-cell
invariant-loop-cell g l = AreUnder l.up.items l.count l.inner.items
