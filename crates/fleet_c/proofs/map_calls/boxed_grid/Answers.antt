use Rattle.fleet_map.specs.FirstFault.{memory}
use Rattle.fleet_c.proofs.map_calls.boxed_grid.Goals as goal

pub returns-clause-err : goal.returns-clause-err
returns-clause-err c = memory
