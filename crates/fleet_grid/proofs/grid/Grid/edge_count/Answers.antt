use Rattle.std.proofs.Common.{ap, ◌∙◌}
use Rattle.fleet_grid.specs.Counts.{edge_count}
use Rattle.fleet_grid.proofs.grid.Grid.edge_count.Goals as goal

pub returns : goal.returns
returns g c = c.edge_count_of.ensures ∙ ap edge_count c.self.view_is
