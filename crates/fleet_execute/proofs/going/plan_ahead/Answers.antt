-- One more step is planned.
use Rattle.std.proofs.Common.{◌≡◌, ℕ, ◌+◌, ◌<◌, List, [], sym, ◌∙◌, ap, subst, arith}
use Rattle.fleet_execution.specs.Course.{with_step}
use Rattle.fleet_execution.specs.Executes.{Executes}
use Rattle.fleet_execution.specs.Kept.{Kept, desk}
use Rattle.fleet_execute.specs.Goes.{Goes, cells_at, steps_in, step_at, last_step}
use Rattle.fleet_execute.specs.Goes.Goes.{stays, plans}
use Rattle.fleet_execute.proofs.going.plan_ahead.Goals as goal

pub loop-time-init : goal.loop-time-init
loop-time-init c o x = (record { course = o; goes = stays; executes = x }, x.steps ∙ sym c.steps-time.ensures)

pub loop-time-preserved : goal.loop-time-preserved
loop-time-preserved c o x =
    let old = c.loop-time.invariant o x in
    let p = old.0.course in
    let last : c.steps_in-last.result ≡ last_step c.args.plan.now = c.steps_in-last.ensures ∙ ap (λ (xs : List ℕ). steps_in c.args.plan.now.robots xs) c.as_slice-cells.ensures.value in
    let less : old.0.course.run.plan.steps < last_step c.args.plan.now = omega (arith, c.loop-time-test.true, last, old.1) in
    let to : c.cells_at-to.result.now ≡ step_at c.args.plan.now (old.0.course.run.plan.steps + 1) =
    c.cells_at-to.ensures ∙ (ap (λ (xs : List ℕ). cells_at c.args.plan.now.robots xs (c.loop-time.time + 1)) c.as_slice-cells.ensures.value
    ∙ ap (λ (n : ℕ). step_at c.args.plan.now (n + 1)) (sym old.1)) in
    let here : Executes (desk c.is_step.new.self) old.0.course = subst (λ (k : Kept). Executes (desk k) old.0.course) (sym c.is_step.ensures.same) old.0.executes in (
      record {
        course = with_step old.0.course c.cells_at-to.result.now;
        goes = subst (λ (ys : List ℕ). Goes c.args.plan.now o [] (with_step old.0.course ys)) (sym to) (plans [] old.0.course old.0.goes less);
        executes = c.plan.ensures.planned old.0.course here;
      },
      ap (λ (n : ℕ). n + 1) old.1,
    )
