use Rattle.std.proofs.Common.{arith, ◌≡◌, ◌+◌, ◌<◌, ◌∙◌, ℕ, List, length, take, get_or, ap}
use Rattle.std.specs.Prelude.{count_by, ◌==◌}
use Rattle.std.proofs.lemmas.List.{take_all}
use Rattle.std.proofs.lemmas.List.Sums.{sum_by_more, sum_by-take-le}
use Rattle.fleet_queue.specs.declared.errand.Errand.{Errand}
use Rattle.fleet_history.specs.declared.history.RobotState.{RobotState}
use Rattle.fleet_state.specs.Opened.{owed_in}
use Rattle.fleet_state.proofs.clients.owed_of.Goals as goal

abbrev owed_by : {A : Type 0} → ℕ → RobotState A → ℕ
owed_by client x = count_by (λ e. e.client == client) x.errands

-- the errands of one more robot
one-more : {A : Type 0} (robots : List (RobotState A)) (client i owed n : ℕ) (x : RobotState A) (errands : List Errand) → i < length robots → x ≡ get_or robots i x → errands ≡ x.errands →
    n ≡ count_by (λ e. e.client == client) errands → owed ≡ owed_in (take i robots) client → owed + n ≡ owed_in (take (i + 1) robots) client
one-more robots client i owed n x errands l is same counted so_far =
    let here : n ≡ owed_by client (get_or robots i x) = counted ∙ ap (count_by (λ e. e.client == client)) same ∙ ap (owed_by client) is in
    omega (arith, here, so_far, sum_by_more (owed_by client) robots i x l)

pub overflow_add-owed : goal.overflow_add-owed
overflow_add-owed g c =
    let robots = c.args.robots.now in
    let i = c.loop-robot.robot-index in
    let sum = one-more robots c.args.client i c.loop-robot.owed c.count_of-owed.result _ _ c.loop-robot-test.true c.robot-item.is c.as_slice.ensures c.count_of-owed.ensures c.loop-robot.invariant in
    omega (arith, sum, sum_by-take-le (owed_by c.args.client) robots (i + 1))

pub loop-robot-preserved : goal.loop-robot-preserved
loop-robot-preserved g c =
    one-more c.args.robots.now c.args.client c.loop-robot.robot-index c.loop-robot.owed c.count_of-owed.result _ _ c.loop-robot-test.true c.robot-item.is c.as_slice.ensures c.count_of-owed.ensures c.loop-robot.invariant

pub returns : goal.returns
returns g c = c.loop-robot.invariant ∙ ap (λ robots. owed_in robots c.args.client) (take_all c.loop-robot.robot-index c.args.robots.now c.loop-robot-test.false)
