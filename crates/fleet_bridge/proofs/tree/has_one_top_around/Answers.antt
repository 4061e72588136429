use Rattle.std.specs.Prelude.{slice_index}
use Rattle.fleet_bridge.proofs.Inner.{same_around}
use Rattle.fleet_bridge.proofs.tree.has_one_top_around.Goals as goal

pub returns-then-south : goal.returns-then-south
returns-then-south g c = λ west. same_around c.args.sides.now (slice_index c.args.tree.now.top.items) c.args.cell
    (c.has_one_top-north.ensures c.if-north.true) (c.has_one_top-east.ensures c.if-east.true) (c.has_one_top-south.ensures c.if-south.true) (c.has_one_top-west.ensures west)
