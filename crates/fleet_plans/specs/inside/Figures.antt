-- The figures of robots that have gone this many steps, are on their last cells, and have costs.
use Rattle.std.specs.Prelude.{◌≡◌, ℕ, List, length, sum, Option, option_map}
use Rattle.fleet_plans.specs.Costs.{greatest}
use Rattle.fleet_plans.specs.Report.{goals_reached}
use Rattle.fleet_plans.specs.declared.report.PlanReport.{PlanReport}

pub record AreFigures (steps : ℕ) (goals : Option (List ℕ)) (last costs : List ℕ) (report : PlanReport) : Type 0 where
  pub steps_are : report.steps ≡ steps
  pub robots_are : report.robots ≡ length last
  pub sum_is : report.sum_of_costs ≡ sum costs
  pub most_is : report.makespan ≡ greatest costs
  pub reached : report.on_goals ≡ option_map (λ goals. goals_reached goals last) goals
