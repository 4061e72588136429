use Rattle.fleet_bridge.proofs.reach.hand_all_up.Goals as goal

pub loop-cell-preserved-then-cell-count : goal.loop-cell-preserved-then-cell-count
loop-cell-preserved-then-cell-count g c = c.hand_up.ensures c.args.count c.if-cell-count.true c.loop-cell.invariant
