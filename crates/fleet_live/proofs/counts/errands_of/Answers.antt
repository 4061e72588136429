-- The errands of one more robot.
use Rattle.std.proofs.Common.{rules, ◌-◌, ◌^◌, length}
use Rattle.fleet_live.proofs.Counting.{sum-all, sum-more}
use Rattle.fleet_live.proofs.counts.errands_of.Goals as goal

pub loop-robot-preserved : goal.loop-robot-preserved
loop-robot-preserved c = sum-more (λ r. length r.errands) c.args.robots.now c.loop-robot.robot-index (2 ^ 64 - 1) c.loop-robot.errands _ c.saturating_add-errands.result c.robot-item.result c.loop-robot-test.true c.robot-item.is (search rules) c.saturating_add-errands.ensures c.loop-robot.invariant

pub returns : goal.returns
returns c = sum-all (λ r. length r.errands) c.args.robots.now c.loop-robot.robot-index (2 ^ 64 - 1) c.loop-robot.errands c.loop-robot-test.false c.loop-robot.invariant
