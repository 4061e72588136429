-- The floor of a map's cells.
use Rattle.std.proofs.Common.{refl}
use Rattle.fleet_grid.proofs.cells.Cells.new.Goals as goal

pub returns : goal.returns
returns g c = refl
