use Rattle.fleet_bridge.proofs.Inner.{found_beside}
use Rattle.fleet_bridge.proofs.tree.is_beside.Goals as goal

pub returns-in-Some : goal.returns-in-Some
returns-in-Some g c = λ t. found_beside c.args.sides.now c.args.a c.args.b c.in-Some.next c.args.dir c.in-Some.ensures t
