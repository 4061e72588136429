use Rattle.fleet_convert.proofs.CellsBack.{cells_back}
use Rattle.fleet_convert.proofs.law.cells_read_back.Goals as goal

pub returns : goal.returns
returns c = λ m places form size valid. cells_back m form places size valid
