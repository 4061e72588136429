use Rattle.fleet_bridge.proofs.preorder.is_whole_or_wall.Goals as goal

pub returns-then-is_floor : goal.returns-then-is_floor
returns-then-is_floor g c = λ yes floor. c.is_whole.ensures yes

pub returns : goal.returns
returns g c = λ yes floor. absurd (cc (c.is_floor.ensures.no floor, c.if-is_floor.false))
