use Rattle.fleet_c.specs.inside.Runs.{noted}
use Rattle.fleet_c.proofs.Runs.{each-more}
use Rattle.fleet_c.proofs.standings.note_errands.Goals as goal

pub loop-at-preserved : goal.loop-at-preserved
loop-at-preserved c =
    each-more noted c.args.all.now c.args.standings.now c.loop-at.standings c.note_errand.new.standings c.loop-at.at _ c.loop-at-test.true c.loop-at.auto.standings c.note_errand.ensures c.loop-at.invariant
