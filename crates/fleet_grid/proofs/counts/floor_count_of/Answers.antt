-- The number of floor letters.
use Rattle.std.proofs.Common.{rules}
use Rattle.fleet_grid.proofs.counts.floor_count_of.Goals as goal

pub returns : goal.returns
returns g c = search rules
