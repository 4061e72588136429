-- The test of an edge that leads neither north, east nor south.
use Rattle.std.proofs.Common.{rules}
use Rattle.fleet_grid.proofs.grid.Grid.has_edge.Goals as goal

pub returns-else-leads-3 : goal.returns-else-leads-3
returns-else-leads-3 g c = search rules
