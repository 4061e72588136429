-- One more path, longer or not.
use Rattle.std.proofs.Common.{◌+◌, inl, arith}
use Rattle.fleet_plans.specs.inside.Walk.{IsLongest}
use Rattle.fleet_plans.proofs.Walks.{longer, no_longer}
use Rattle.fleet_plans.proofs.follow.longest.Goals as goal
use Rattle.fleet_plans.proofs.follow.longest.Goals.{then-len-most, else-len-most}

pub loop-robot-init : goal.loop-robot-init
loop-robot-init c = record { most = λ r less. absurd (omega arith); one = inl (omega arith) }

pub loop-robot-preserved : goal.loop-robot-preserved
loop-robot-preserved c =
    let paths = c.args.paths.now in
    let n = c.loop-robot.robot in
    let new = c.if-len-most.most in
    elim c.if-len-most.branch as (λ _. IsLongest paths (n + 1) new) [
      | then-len-most w ↦ longer paths n c.loop-robot.most (omega arith) c.loop-robot.invariant new (omega (arith, w.most-is, c.length_of-len.ensures)) (omega (arith, w.if-len-most.true, c.length_of-len.ensures))
      | else-len-most w ↦ no_longer paths n c.loop-robot.most (omega arith) c.loop-robot.invariant new w.most-is (omega (arith, w.if-len-most.false, c.length_of-len.ensures))
    ]
