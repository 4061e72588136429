use Rattle.std.proofs.Common.{◌↔◌, IfOk, IsTrue, sym, subst}
use Rattle.fleet_grid.specs.Floor.{IsNeighbour}
use Rattle.fleet_grid.specs.Walk.{IsBridge}
use Rattle.fleet_bridge.proofs.first.is_bridge_by.Goals as goal

pub is_round-requires-clause-tree : goal.is_round-requires-clause-tree
is_round-requires-clause-tree g c = c.requires.tree c.if-is_sound.true

pub is_round-requires-clause-edge : goal.is_round-requires-clause-edge
is_round-requires-clause-edge g c = c.requires.edge

pub returns-then-is_round : goal.returns-then-is_round
returns-then-is_round g c = (λ no. absurd (cc no), λ bridge. absurd (bridge.alone (c.is_round.ensures c.if-is_round.true)))

pub is_bridge-requires : goal.is_bridge-requires
is_bridge-requires g c = subst (λ m. IsNeighbour m c.args.a c.args.b) (sym c.grid.ensures) c.requires.edge

pub returns : goal.returns
returns g c = subst (λ m. IfOk c.is_bridge.result (λ yes. IsTrue yes ↔ IsBridge (IsNeighbour m) c.args.a c.args.b)) c.grid.ensures c.is_bridge.ensures
