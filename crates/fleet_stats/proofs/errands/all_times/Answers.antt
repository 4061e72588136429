use Rattle.fleet_stats.proofs.Lists.{next_times}
use Rattle.fleet_stats.proofs.errands.all_times.Goals as goal

pub loop-client-preserved : goal.loop-client-preserved
loop-client-preserved c = next_times (λ v. v.items) c.loop-client.times.items c.push.new.self.items c.in_ok-one.one c.args.taken.now c.loop-client.client c.in_ok-push.ensures.items c.in_ok-one.ensures c.loop-client.invariant
