use Rattle.std.proofs.Common.{below_more, refl}
use Rattle.fleet_bridge.proofs.preorder.are_whole.Goals as goal

pub loop-cell-preserved : goal.loop-cell-preserved
loop-cell-preserved g c = below_more _ _ c.loop-cell.invariant (c.if-not-is_whole_or_wall.ensures refl)
