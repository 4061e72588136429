-- One robot more is settled.
use Rattle.std.proofs.Common.{◌≡◌, ◌∙◌, ◌<◌, ◌≤◌, ◌++◌, ◌+◌, length, subst, sym}
use Rattle.std.specs.Prelude.{slice_set}
use Rattle.fleet_refit.proofs.Settling.{IsSoFar, begun, one-settled, all-settled}
use Rattle.fleet_refit.proofs.reached.settle_all.Goals as goal

pub loop-robot-init : goal.loop-robot-init
loop-robot-init g c = begun c.args.grid.now c.args.seats.now.items c.args.dropped.now.items

pub loop-robot-preserved : goal.loop-robot-preserved
loop-robot-preserved g c =
    let (last, settled, listed) = c.in_ok-settle.ensures in
    let now = c.loop-robot.seats.items in
    let inside : c.loop-robot.robot < length now = subst (λ n. c.loop-robot.robot < n) (c.len-robot-end.ensures ∙ c.args.seats.now.ok.0 ∙ sym c.loop-robot.invariant.same) c.loop-robot-test.true in
    subst (λ d. IsSoFar c.args.grid.now (c.loop-robot.robot + 1) c.args.seats.now.items (slice_set now c.loop-robot.robot c.settle.new.seat) c.args.dropped.now.items d) (sym listed)
    (one-settled c.args.grid.now c.loop-robot.robot c.args.seats.now.items now c.args.dropped.now.items c.loop-robot.dropped.items last c.index_mut.result.now c.settle.new.seat
    c.loop-robot.invariant inside c.index_mut.ensures.value settled)

pub returns-clause-settled : goal.returns-clause-settled
returns-clause-settled g c = all-settled c.args.grid.now c.loop-robot.robot c.args.seats.now.items c.loop-robot.seats.items c.args.dropped.now.items c.loop-robot.dropped.items c.loop-robot.invariant
    (subst (λ n. n ≤ c.loop-robot.robot) (c.len-robot-end.ensures ∙ c.args.seats.now.ok.0) c.loop-robot-test.false)
