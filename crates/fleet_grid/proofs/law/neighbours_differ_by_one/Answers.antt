use Rattle.fleet_grid.proofs.Colours.{differ_by_one}
use Rattle.fleet_grid.proofs.law.neighbours_differ_by_one.Goals as goal

pub returns : goal.returns
returns c = differ_by_one
