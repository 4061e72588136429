use Rattle.std.proofs.Common.{◌≤◌, subst, length, arith, List}
use Rattle.fleet_history.specs.declared.history.RobotState.{RobotState}
use Rattle.fleet_trace.proofs.OpeningParts.{floor_at, robot_on, robot_out}
use Rattle.fleet_trace.proofs.judging.robots.robot_fault.Goals as goal

pub is_robot_in_order-requires : goal.is_robot_in_order-requires
is_robot_in_order-requires g c =
    floor_at c.args.grid.now c.args.opening.now c.as_slice-robots.result.now c.loop-r.r c.index-robots-r.result c.as_slice-robots.ensures c.index-robots-r.is c.loop-r-test.true c.requires.placed

pub loop-r-preserved : goal.loop-r-preserved
loop-r-preserved g c =
    robot_on c.args.grid.now c.args.opening.now c.as_slice-robots.result.now c.loop-r.r c.index-robots-r.result c.as_slice-robots.ensures c.index-robots-r.is c.loop-r-test.true
    (c.is_robot_in_order.ensures.0 c.if-not-is_robot_in_order.false) c.loop-r.invariant

pub returns-then-not-is_robot_in_order : goal.returns-then-not-is_robot_in_order
returns-then-not-is_robot_in_order g c =
    robot_out c.args.grid.now c.args.opening.now c.as_slice-robots.result.now c.loop-r.r c.index-robots-r.result c.as_slice-robots.ensures c.index-robots-r.is c.loop-r-test.true
    c.is_robot_in_order.result c.if-not-is_robot_in_order.true c.is_robot_in_order.ensures c.loop-r.invariant

pub returns : goal.returns
returns g c =
    let past = subst (λ (xs : List (RobotState _)). length xs ≤ c.loop-r.r) c.as_slice-robots.ensures c.loop-r-test.false in
    λ k d less. c.loop-r.invariant k d (omega (arith, less, past))
