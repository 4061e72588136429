use Rattle.std.proofs.Common.{below_more, refl}
use Rattle.fleet_bridge.proofs.walked.are_fit_up.Goals as goal

pub loop-cell-preserved : goal.loop-cell-preserved
loop-cell-preserved g c = below_more _ _ c.loop-cell.invariant (c.if-not-is_fit_up.ensures refl)
