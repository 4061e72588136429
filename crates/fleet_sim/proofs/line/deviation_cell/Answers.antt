-- The deviation of two values or more.
use Rattle.std.proofs.Common.{refl}
use Rattle.fleet_sim.specs.Table.IsDeviationCell.{more}
use Rattle.fleet_sim.proofs.line.deviation_cell.Goals as goal

pub returns-else-values-lt2 : goal.returns-else-values-lt2
returns-else-values-lt2 c = more c.deviation_of.result c.if-values-lt2.false refl c.deviation_of.ensures
