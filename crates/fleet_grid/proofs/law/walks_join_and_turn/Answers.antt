use Rattle.fleet_grid.specs.Floor.{IsNeighbour}
use Rattle.fleet_grid.proofs.Edges.{neighbour_back}
use Rattle.fleet_grid.proofs.Walks.{joined_same, joined_on, joined_back}
use Rattle.fleet_grid.proofs.law.walks_join_and_turn.Goals as goal

pub returns-clause-same : goal.returns-clause-same
returns-clause-same c = λ m a. joined_same (IsNeighbour m) a

pub returns-clause-on : goal.returns-clause-on
returns-clause-on c = λ m. joined_on (IsNeighbour m)

pub returns-clause-back : goal.returns-clause-back
returns-clause-back c = λ m a b. joined_back (IsNeighbour m) (neighbour_back m) a b
