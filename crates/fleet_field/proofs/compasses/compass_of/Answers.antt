-- The compass of a floor cell.
use Rattle.fleet_field.proofs.compasses.compass_of.Goals as goal

pub returns-then-not-is_floor : goal.returns-then-not-is_floor
returns-then-not-is_floor g c = λ floor. tt

pub from-requires : goal.from-requires
from-requires g c = c.is_floor.ensures.0 c.if-not-is_floor.false

pub returns : goal.returns
returns g c = λ floor. c.from.ensures
