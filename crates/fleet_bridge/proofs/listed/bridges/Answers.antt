use Rattle.std.proofs.Common.{subst}
use Rattle.fleet_grid.specs.Floor.{Floor, IsNeighbour}
use Rattle.fleet_bridge.specs.Bridges.{AreBridges}
use Rattle.fleet_bridge.proofs.listed.bridges.Goals as goal

pub returns-clause-exact : goal.returns-clause-exact
returns-clause-exact g c = (subst (λ (m : Floor). AreBridges (IsNeighbour m) c.push_by_tree.new.list.items) c.new.ensures c.in_ok-push_by_tree.ensures).each
