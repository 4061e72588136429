-- What there is to say of a valid plan.
use Rattle.std.specs.Prelude.{◌≡◌, ℕ, ◌+◌, List, length, sum, count_by, zip, Option, ◌==◌}
use Rattle.std.specs.Option.{option_map}
use Rattle.fleet_plans.specs.Valid.{place_at}
use Rattle.fleet_plans.specs.Costs.{AreCostsBy, greatest}
use Rattle.fleet_plans.specs.declared.report.PlanReport.{PlanReport}

-- how many robots end on their goals
abbrev pub goals_reached : List ℕ → List ℕ → ℕ
goals_reached goals last = count_by (λ p. p.0 == p.1) (zip goals last)

-- the figures of a valid plan with these placements, and with these goals if it names any
pub record IsReportOf (goals : Option (List ℕ)) (places : List (List ℕ)) (report : PlanReport) : Type 0 where
  pub steps : length places ≡ report.steps + 1
  pub robots : report.robots ≡ length (place_at places 0)
  pub costs : (costs : List ℕ) × AreCostsBy places report.steps costs × (report.sum_of_costs ≡ sum costs) × (report.makespan ≡ greatest costs)
  pub on_goals : report.on_goals ≡ option_map (λ goals. goals_reached goals (place_at places report.steps)) goals
