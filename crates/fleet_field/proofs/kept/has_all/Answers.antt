use Rattle.std.proofs.Common.{slice_index}
use Rattle.fleet_field.proofs.Ahead.{kept_at, kept_more}
use Rattle.fleet_field.proofs.kept.has_all.Goals as goal

pub loop-goal-preserved : goal.loop-goal-preserved
loop-goal-preserved g c =
    let goals = c.args.goals.now in
    let kept = c.args.kept.now.items in
    kept_more goals kept c.loop-goal.goal-index c.loop-goal.invariant (kept_at kept c.in-Some._at (slice_index goals c.loop-goal.goal-index) c.in-Some.ensures.0 c.in-Some.ensures.1)
