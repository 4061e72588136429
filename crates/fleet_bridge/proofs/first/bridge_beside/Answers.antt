use Rattle.fleet_bridge.proofs.Inner.{near_by}
use Rattle.fleet_bridge.proofs.first.bridge_beside.Goals as goal

pub is_bridge_by-requires-clause-edge : goal.is_bridge_by-requires-clause-edge
is_bridge_by-requires-clause-edge g c = near_by c.args.sides.now c.args.cell c.in-Some.next c.args.dir c.in-Some.ensures
