-- What is said of the plan is said of its placements.
use Rattle.std.proofs.Common.{◌≡◌, length}
use Rattle.std.proofs.lemmas.Result.{on_ok_weaker}
use Rattle.fleet_execution.specs.Executes.{Executes}
use Rattle.fleet_execution.specs.Kept.{desk}
use Rattle.fleet_talk.proofs.Saying.{at-fault}
use Rattle.fleet_execute.specs.Placed.{first_of, start_of, IsPlanOf}
use Rattle.fleet_execute.proofs.Cells.{never_opened, some_found, all_held, all_broken}
use Rattle.fleet_execute.proofs.Dialogues.{err_weaker}
use Rattle.fleet_execute.proofs.placed.execute.Goals as goal

pub returns-in_err-course-clause-broken : goal.returns-in_err-course-clause-broken
returns-in_err-course-clause-broken g c =
    let fault = c.in_err-course.field-0.0 in
    at-fault _ fault _ c.from_residual.ensures.1 (never_opened c.args.rules.clearance c.args.places.now (g.I.Read.remaining c.args.input.now) (g.W.Write.contents c.args.output.now) fault c.in_err-course.ensures.refused)

pub returns-in-Some-clause-held : goal.returns-in-Some-clause-held
returns-in-Some-clause-held g c =
    let found = some_found c.in_ok-course.field-0 (length (first_of c.args.places.now) ≡ 0) (λ o. IsPlanOf c.args.places.now o.plan × Executes (desk o.run) (start_of c.args.rules.clearance c.args.places.now))
    c.in-Some.course c.in-Some.is c.in_ok-course.ensures.opened in
    on_ok_weaker c.hold.result (λ all. all_held c.args.rules.clearance c.args.places.now c.in-Some.course.plan (desk c.in-Some.course.run) (g.I.Read.remaining c.args.input.now) (g.W.Write.contents c.args.output.now) (g.W.Write.contents c.hold.new.output) found.0 found.1 all)
    c.hold.ensures.held

pub returns-in-Some-clause-broken : goal.returns-in-Some-clause-broken
returns-in-Some-clause-broken g c =
    let found = some_found c.in_ok-course.field-0 (length (first_of c.args.places.now) ≡ 0) (λ o. IsPlanOf c.args.places.now o.plan × Executes (desk o.run) (start_of c.args.rules.clearance c.args.places.now))
    c.in-Some.course c.in-Some.is c.in_ok-course.ensures.opened in
    err_weaker c.hold.result _ _ (λ fault all. all_broken c.args.rules.clearance c.args.places.now c.in-Some.course.plan (desk c.in-Some.course.run) (g.I.Read.remaining c.args.input.now) (g.W.Write.contents c.args.output.now) (g.W.Write.contents c.hold.new.output) fault found.0 found.1 all)
    c.hold.ensures.broken
