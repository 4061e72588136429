-- The place of the east in the order of directions.
use Rattle.std.proofs.Common.{refl}
use Rattle.fleet_grid.proofs.dir.Dir.number.Goals as goal

pub returns-in-East : goal.returns-in-East
returns-in-East c = rw c.in-East.is refl
