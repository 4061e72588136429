-- Each time of a valid plan.
use Rattle.fleet_plans.proofs.Placed.{placed_at, one_fleet}
use Rattle.fleet_plans.proofs.law.robots_stay_apart.Goals as goal

pub returns-clause-placed : goal.returns-clause-placed
returns-clause-placed c = λ m places t valid less. placed_at m places valid t less

pub returns-clause-one_fleet : goal.returns-clause-one_fleet
returns-clause-one_fleet c = λ m places t valid less. one_fleet m places valid t less
