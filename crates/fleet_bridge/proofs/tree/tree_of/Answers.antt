use Rattle.fleet_bridge.proofs.tree.tree_of.Goals as goal

pub returns : goal.returns
returns g c = c.in_ok-low.ensures
