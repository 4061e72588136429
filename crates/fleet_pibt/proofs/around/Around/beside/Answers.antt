-- The cell to the north.
use Rattle.std.proofs.Common.{ap, sym}
use Rattle.fleet_pibt.specs.inside.Around.{cell_in}
use Rattle.fleet_pibt.proofs.around.Around.beside.Goals as goal

pub returns-in-North : goal.returns-in-North
returns-in-North c = ap (cell_in c.args.self.now) (sym c.in-North.is)
