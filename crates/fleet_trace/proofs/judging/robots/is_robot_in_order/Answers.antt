-- A robot at the opening, test by test.
use Rattle.fleet_history.specs.Legal.{IsRobotInOrder}
use Rattle.fleet_trace.proofs.Robots.{refuses, long, unfit_wait, all_fine}
use Rattle.fleet_trace.proofs.judging.robots.is_robot_in_order.Goals as goal
use Rattle.fleet_trace.proofs.judging.robots.is_robot_in_order.Goals.{then-not-is_law_in_order-via-then-not-is_law_in_order, then-not-is_law_in_order-via-else-not-is_law_in_order+then-not-is_law_in_order-2}

pub returns-then-not-is_law_in_order : goal.returns-then-not-is_law_in_order
returns-then-not-is_law_in_order g c = let Fine = IsRobotInOrder c.args.grid.now c.args.opening.now c.args.robot.now in elim c.then-not-is_law_in_order.branch [
  | then-not-is_law_in_order-via-then-not-is_law_in_order w ↦ refuses Fine c.is_law_in_order.result w.if-not-is_law_in_order.true (λ fine. c.is_law_in_order.ensures.1 fine.arrival_law)
  | then-not-is_law_in_order-via-else-not-is_law_in_order+then-not-is_law_in_order-2 w ↦ refuses Fine w.is_law_in_order-else-not-is_law_in_order.result w.if-not-is_law_in_order-2.true (λ fine. w.is_law_in_order-else-not-is_law_in_order.ensures.1 fine.farewell_law)
]

pub returns-then-errands-opening : goal.returns-then-errands-opening
returns-then-errands-opening g c = long c.args.grid.now c.args.opening.now c.args.robot.now c.as_slice-errands.result.now c.as_slice-errands.ensures c.if-errands-opening.true

pub returns-then-not-is_wait_in_order : goal.returns-then-not-is_wait_in_order
returns-then-not-is_wait_in_order g c =
    unfit_wait c.args.grid.now c.args.opening.now c.args.robot.now c.as_slice-errands.result.now c.as_slice-errands.ensures c.is_wait_in_order.result c.is_empty.result
    c.if-not-is_wait_in_order.true c.is_empty.ensures c.is_wait_in_order.ensures

pub are_errands_in_order-requires : goal.are_errands_in_order-requires
are_errands_in_order-requires g c = c.requires

pub returns : goal.returns
returns g c =
    all_fine c.args.grid.now c.args.opening.now c.args.robot.now c.as_slice-errands.result.now c.as_slice-errands.ensures c.are_errands_in_order.result c.is_empty.result c.as_slice.result.now c.as_slice.ensures
    (c.is_law_in_order.ensures.0 c.if-not-is_law_in_order.false) (c.is_law_in_order-else-not-is_law_in_order.ensures.0 c.if-not-is_law_in_order-2.false) c.if-errands-opening.false
    c.is_empty.ensures (c.is_wait_in_order.ensures.0 c.if-not-is_wait_in_order.false) c.are_errands_in_order.ensures
