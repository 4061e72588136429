use Rattle.fleet_map.specs.FirstFault.{memory}
use Rattle.fleet_c.proofs.opening.grid_of.Goals as goal

pub returns-in-Err-clause-first : goal.returns-in-Err-clause-first
returns-in-Err-clause-first c = memory
