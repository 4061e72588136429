-- One time more.
use Rattle.fleet_conflicts.proofs.Growing.{no_times, one_time_more}
use Rattle.fleet_conflicts.proofs.conflicts.conflicts_on.Goals as goal

pub loop-time-init : goal.loop-time-init
loop-time-init c = no_times c.args.grid.now c.args.places.now c.new-conflicts.result.items c.new-conflicts.ensures.items

pub loop-time-preserved : goal.loop-time-preserved
loop-time-preserved c =
    one_time_more c.args.grid.now c.args.places.now c.loop-time.time c.saturating_sub.result c.at.result.now c.at-to.result.now c.loop-time.conflicts.items c.add_time.new.conflicts.items c.in_ok-faults.faults.items
    c.deref.result.now c.loop-time.invariant c.saturating_sub.ensures c.at.ensures c.at-to.ensures c.in_ok-faults.ensures c.deref.ensures.value c.in_ok-add_time.ensures
