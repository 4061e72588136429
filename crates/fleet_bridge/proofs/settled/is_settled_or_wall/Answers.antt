use Rattle.fleet_grid.proofs.Forms.{floor_inside}
use Rattle.fleet_bridge.proofs.settled.is_settled_or_wall.Goals as goal

pub is_settled-requires-clause-inside : goal.is_settled-requires-clause-inside
is_settled-requires-clause-inside g c = floor_inside c.args.sides.now c.args.cell (c.is_floor.ensures.yes c.if-is_floor.true)

pub is_settled-requires-clause-tree : goal.is_settled-requires-clause-tree
is_settled-requires-clause-tree g c = c.requires

pub returns-then-is_floor : goal.returns-then-is_floor
returns-then-is_floor g c = λ yes floor. c.is_settled.ensures yes

pub returns : goal.returns
returns g c = λ yes floor. absurd (cc (c.is_floor.ensures.no floor, c.if-is_floor.false))
