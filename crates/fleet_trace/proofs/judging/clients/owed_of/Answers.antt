use Rattle.std.proofs.Common.{◌∙◌, ap, arith, ℕ, List}
use Rattle.std.specs.Prelude.{count_by, ◌==◌}
use Rattle.std.proofs.lemmas.List.{take_all}
use Rattle.std.proofs.lemmas.List.Sums.{sum_by_more, sum_by_more_le}
use Rattle.fleet_queue.specs.declared.errand.Errand.{Errand}
use Rattle.fleet_history.specs.declared.history.RobotState.{RobotState}
use Rattle.fleet_trace.specs.inside.Opened.{owed_in}
use Rattle.fleet_trace.proofs.judging.clients.owed_of.Goals as goal

pub overflow_add-owed : goal.overflow_add-owed
overflow_add-owed g c =
    let owed : RobotState _ → ℕ = λ x. count_by (λ e. e.client == c.args.client) x.errands in
    let counted = c.count_of-owed.ensures ∙ ap (λ (errands : List Errand). count_by (λ e. e.client == c.args.client) errands) c.as_slice.ensures ∙ ap owed c.robot-item.is in
    omega (arith, counted, sum_by_more_le owed c.args.robots.now c.loop-robot.robot-index c.robot-item.result c.loop-robot-test.true, c.loop-robot.invariant, c.requires)

pub loop-robot-preserved : goal.loop-robot-preserved
loop-robot-preserved g c =
    let owed : RobotState _ → ℕ = λ x. count_by (λ e. e.client == c.args.client) x.errands in
    let counted = c.count_of-owed.ensures ∙ ap (λ (errands : List Errand). count_by (λ e. e.client == c.args.client) errands) c.as_slice.ensures ∙ ap owed c.robot-item.is in
    omega (arith, counted, sum_by_more owed c.args.robots.now c.loop-robot.robot-index c.robot-item.result c.loop-robot-test.true, c.loop-robot.invariant)

pub returns : goal.returns
returns g c = c.loop-robot.invariant ∙ ap (λ (xs : List (RobotState _)). owed_in xs c.args.client) (take_all c.loop-robot.robot-index c.args.robots.now c.loop-robot-test.false)
