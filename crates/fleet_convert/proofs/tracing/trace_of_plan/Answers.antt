-- What is told of the plan is that it is valid, with this report, or something else.
use Rattle.std.proofs.Common.{◌≡◌, false, refl, subst}
use Rattle.fleet_plans.specs.declared.answer.PlanAnswer.{PlanAnswer}
use Rattle.fleet_plans.specs.declared.answer.PlanAnswer.TheVariants.{Map, Text, Cut, Scenario, Json, Head, Valid, Invalid, Goals}
use Rattle.fleet_plans.specs.declared.report.PlanReport.{PlanReport}
use Rattle.fleet_plans.specs.Answer.{IsPlanAnswer}
use Rattle.fleet_convert.specs.PlanTrace.{is_valid}
use Rattle.fleet_convert.proofs.tracing.trace_of_plan.Goals as goal

other_is_not_valid : (a : PlanAnswer) → ((report : PlanReport) → a ≡ Valid report → ⊥) → is_valid a ≡ false
other_is_not_valid (Map f) other = refl
other_is_not_valid (Text line) other = refl
other_is_not_valid (Cut line) other = refl
other_is_not_valid (Scenario line) other = refl
other_is_not_valid (Json f) other = refl
other_is_not_valid (Head f) other = refl
other_is_not_valid (Valid report) other = absurd (other report refl)
other_is_not_valid (Invalid f) other = refl
other_is_not_valid (Goals time f) other = refl

pub returns-then-report-gt-MOST_ROBOTS-clause-fault : goal.returns-then-report-gt-MOST_ROBOTS-clause-fault
returns-then-report-gt-MOST_ROBOTS-clause-fault c =
    record {
      report = c.in-Valid.report;
      told = subst (λ (a : PlanAnswer). IsPlanAnswer c.args.bytes.now c.args.plan.now a) c.in-Valid.is c.in_ok-answer.ensures;
      many = c.if-report-gt-MOST_ROBOTS.true;
    }

pub returns-in_default : goal.returns-in_default
returns-in_default c =
    record {
      trace = tt;
      fault = record { told = c.in_ok-answer.ensures; not_valid = other_is_not_valid c.in_ok-answer.answer c.in_default.not-Valid };
    }
