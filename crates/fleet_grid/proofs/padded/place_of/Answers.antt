-- The place of a cell.
use Rattle.std.proofs.Common.{refl}
use Rattle.fleet_grid.proofs.padded.place_of.Goals as goal

pub returns : goal.returns
returns c = refl
