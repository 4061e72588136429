use Rattle.std.proofs.Common.{length, ap, ◌∙◌}
use Rattle.std.proofs.lemmas.List.{length-set}
use Rattle.fleet_bridge.proofs.settled.fill.Goals as goal

pub loop-cell-preserved : goal.loop-cell-preserved
loop-cell-preserved g c = ap length c.write.ensures ∙ (length-set c.loop-cell.most.items _ _ ∙ c.loop-cell.invariant)
