-- One more errand of the queue.
use Rattle.std.proofs.Common.{arith}
use Rattle.fleet_stats.proofs.Followed.{left_more}
use Rattle.fleet_stats.proofs.left.push_queue.Goals as goal

pub loop-place-preserved : goal.loop-place-preserved
loop-place-preserved c =
    left_more c.args.robot c.args.queue.now.items c.loop-place.place c.get.result c.loop-place.left.items c.push_errand.new.left.items _
    (omega (arith, c.loop-place-test.true, c.len-place-end.ensures.len)) c.get.ensures c.in_ok-push_errand.ensures c.loop-place.invariant
