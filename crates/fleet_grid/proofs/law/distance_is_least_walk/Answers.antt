use Rattle.fleet_grid.proofs.Shortest.{distance_is, is_distance, no_distance, apart_is, distance_below}
use Rattle.fleet_grid.proofs.law.distance_is_least_walk.Goals as goal

pub returns-clause-some : goal.returns-clause-some
returns-clause-some c = λ m a b d f. (distance_is m a b d, is_distance m a b d f)

pub returns-clause-none : goal.returns-clause-none
returns-clause-none c = λ m a b f. (no_distance m a b f, apart_is m a b)

pub returns-clause-below : goal.returns-clause-below
returns-clause-below c = distance_below
