use Rattle.fleet_grid.proofs.Neighbours.{east_is_counted, counted_east, south_is_counted, counted_south}
use Rattle.fleet_grid.proofs.law.edges_are_counted_once.Goals as goal

pub returns-clause-east : goal.returns-clause-east
returns-clause-east c = λ m cell. (counted_east m cell, east_is_counted m cell)

pub returns-clause-south : goal.returns-clause-south
returns-clause-south c = λ m cell. (counted_south m cell, south_is_counted m cell)
