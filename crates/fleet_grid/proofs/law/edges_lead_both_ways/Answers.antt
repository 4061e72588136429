use Rattle.fleet_grid.proofs.Edges.{neighbour_back}
use Rattle.fleet_grid.proofs.Neighbours.{neighbour_passes, passes_neighbour}
use Rattle.fleet_grid.proofs.law.edges_lead_both_ways.Goals as goal

pub returns-clause-test : goal.returns-clause-test
returns-clause-test c = λ m a b. (passes_neighbour m a b, neighbour_passes m a b)

pub returns-clause-back : goal.returns-clause-back
returns-clause-back c = neighbour_back
