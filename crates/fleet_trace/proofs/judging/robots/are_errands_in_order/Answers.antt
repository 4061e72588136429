use Rattle.fleet_trace.specs.inside.Opened.{IsErrandInOrder}
use Rattle.fleet_trace.proofs.AllItems.{all_on, all_fails, all_done}
use Rattle.fleet_trace.proofs.judging.robots.are_errands_in_order.Goals as goal

pub loop-errand-preserved : goal.loop-errand-preserved
loop-errand-preserved g c =
    all_on (IsErrandInOrder c.args.grid.now c.args.clients.now c.args.cell) c.args.errands.now c.loop-errand.errand-index _ c.is_errand_in_order.result c.is_errand_in_order.ensures
    c.loop-errand-test.true c.if-not-is_errand_in_order.false c.loop-errand.invariant

pub returns-then-not-is_errand_in_order : goal.returns-then-not-is_errand_in_order
returns-then-not-is_errand_in_order g c =
    all_fails (IsErrandInOrder c.args.grid.now c.args.clients.now c.args.cell) c.args.errands.now c.loop-errand.errand-index _ c.is_errand_in_order.result c.is_errand_in_order.ensures
    c.loop-errand-test.true c.if-not-is_errand_in_order.true

pub returns : goal.returns
returns g c =
    all_done (IsErrandInOrder c.args.grid.now c.args.clients.now c.args.cell) c.args.errands.now c.loop-errand.errand-index c.loop-errand-test.false c.loop-errand.invariant
