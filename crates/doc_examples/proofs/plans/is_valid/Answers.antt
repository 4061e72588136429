-- The answer is the one that the texts have.
use Rattle.std.proofs.Common.{subst}
use Rattle.fleet_plans.specs.declared.answer.PlanAnswer.{PlanAnswer}
use Rattle.fleet_plans.specs.Answer.{IsPlanAnswer}
use Rattle.doc_examples.proofs.plans.is_valid.Goals as goal

pub returns-in-Valid-clause-valid : goal.returns-in-Valid-clause-valid
returns-in-Valid-clause-valid c = λ yes. (c.in-Valid._report, subst (λ (a : PlanAnswer). IsPlanAnswer c.args.map.now c.args.plan.now a) c.in-Valid.is c.in_ok-_report.ensures)

pub returns-in-Map-clause-invalid : goal.returns-in-Map-clause-invalid
returns-in-Map-clause-invalid c = λ no. (c.in_ok-_report.field-0, c.in_ok-_report.ensures, λ report e. cc (e, c.in-Map.is))

pub returns-in-Text-clause-invalid : goal.returns-in-Text-clause-invalid
returns-in-Text-clause-invalid c = λ no. (c.in_ok-_report.field-0, c.in_ok-_report.ensures, λ report e. cc (e, c.in-Text.is))

pub returns-in-Json-clause-invalid : goal.returns-in-Json-clause-invalid
returns-in-Json-clause-invalid c = λ no. (c.in_ok-_report.field-0, c.in_ok-_report.ensures, λ report e. cc (e, c.in-Json.is))

pub returns-in-Invalid-clause-invalid : goal.returns-in-Invalid-clause-invalid
returns-in-Invalid-clause-invalid c = λ no. (c.in_ok-_report.field-0, c.in_ok-_report.ensures, λ report e. cc (e, c.in-Invalid.is))

pub returns-in-Cut-clause-invalid : goal.returns-in-Cut-clause-invalid
returns-in-Cut-clause-invalid c = λ no. (c.in_ok-_report.field-0, c.in_ok-_report.ensures, λ report e. cc (e, c.in-Cut.is))

pub returns-in-Head-clause-invalid : goal.returns-in-Head-clause-invalid
returns-in-Head-clause-invalid c = λ no. (c.in_ok-_report.field-0, c.in_ok-_report.ensures, λ report e. cc (e, c.in-Head.is))

pub returns-in-Goals-clause-invalid : goal.returns-in-Goals-clause-invalid
returns-in-Goals-clause-invalid c = λ no. (c.in_ok-_report.field-0, c.in_ok-_report.ensures, λ report e. cc (e, c.in-Goals.is))

pub returns-in-Scenario-clause-invalid : goal.returns-in-Scenario-clause-invalid
returns-in-Scenario-clause-invalid c = λ no. (c.in_ok-_report.field-0, c.in_ok-_report.ensures, λ report e. cc (e, c.in-Scenario.is))
