use Rattle.fleet_c.specs.inside.Runs.{put_at}
use Rattle.fleet_c.proofs.Runs.{each-more}
use Rattle.fleet_c.proofs.errands.put_errands.Goals as goal

pub loop-at-preserved : goal.loop-at-preserved
loop-at-preserved c =
    each-more (put_at c.args.robot) c.args.all.now c.args.errands.now c.loop-at.errands c.put_errand.new.errands c.loop-at.at _ c.loop-at-test.true c.loop-at.auto.errands c.put_errand.ensures c.loop-at.invariant
