use Rattle.std.specs.Prelude.{slice_index}
use Rattle.fleet_bridge.proofs.Inner.{one_top}
use Rattle.fleet_bridge.proofs.tree.has_one_top.Goals as goal

pub returns-in-Some : goal.returns-in-Some
returns-in-Some g c =
    one_top c.args.sides.now (slice_index c.args.tree.now.top.items) c.args.cell c.in-Some.next c.args.dir c.read.result c.read-in-Some.result c.read.ensures c.read-in-Some.ensures c.in-Some.ensures

pub returns-in-None : goal.returns-in-None
returns-in-None g c = λ yes d n. absurd (c.in-None.ensures d n)
