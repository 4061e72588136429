-- The lines of a report.
use Rattle.std.proofs.Common.{ℕ, List, subst, codes, decimal}
use Rattle.std.specs.Fmt.{HasWritten}
use Rattle.fleet_plans.specs.Answer.{goals_text}
use Rattle.fleet_plans.proofs.Answered.{ten}
use Rattle.fleet_plans.proofs.answer.PlanReportDisplay.fmt.Goals as goal

pub returns-clause-writes : goal.returns-clause-writes
returns-clause-writes g c plain ok =
    let r = c.args.self.now in
    subst (λ (t : List ℕ). HasWritten g.W.Write.write_str_gives c.args.f.now t c.write.new.self)
    (ten (codes "valid ") (decimal r.steps) (codes " ") (decimal r.robots) (codes "\nsum-of-costs ") (decimal r.sum_of_costs) (codes "\nmakespan ") (decimal r.makespan) (codes "\n") (goals_text r.on_goals))
    (c.write.ensures.writes plain ok)
