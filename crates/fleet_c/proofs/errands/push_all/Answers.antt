use Rattle.fleet_c.specs.Errands.{chore_of}
use Rattle.fleet_c.proofs.Places.{push-more}
use Rattle.fleet_c.proofs.errands.push_all.Goals as goal

pub loop-at-preserved : goal.loop-at-preserved
loop-at-preserved c =
    rw (c.in_ok-push.ensures.items, c.of.ensures) (push-more (chore_of c.args.client) c.args.all.now.items c.args.found.now c.loop-at.all.items c.loop-at.at _ c.loop-at-test.true c.loop-at.invariant)
