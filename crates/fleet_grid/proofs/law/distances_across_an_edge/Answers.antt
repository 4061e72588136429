use Rattle.fleet_grid.specs.Floor.{IsNeighbour}
use Rattle.fleet_grid.proofs.Walks.{distance_across}
use Rattle.fleet_grid.proofs.law.distances_across_an_edge.Goals as goal

pub returns : goal.returns
returns c = λ m. distance_across (IsNeighbour m)
