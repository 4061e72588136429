use Rattle.fleet_grid.proofs.Forms.{floor_inside}
use Rattle.fleet_bridge.proofs.housed.is_housed_or_wall.Goals as goal

pub is_housed-requires-clause-inside : goal.is_housed-requires-clause-inside
is_housed-requires-clause-inside g c = floor_inside c.args.sides.now c.args.cell (c.is_floor.ensures.yes c.if-is_floor.true)

pub is_housed-requires-clause-tree : goal.is_housed-requires-clause-tree
is_housed-requires-clause-tree g c = c.requires

pub returns-then-is_floor : goal.returns-then-is_floor
returns-then-is_floor g c = λ yes floor. c.is_housed.ensures yes

pub returns : goal.returns
returns g c = λ yes floor. absurd (cc (c.is_floor.ensures.no floor, c.if-is_floor.false))
