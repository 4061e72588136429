-- One more placement's line.
use Rattle.fleet_view.proofs.Signs.{next-line}
use Rattle.fleet_view.proofs.placed.write_places.Goals as goal

pub loop-time-preserved : goal.loop-time-preserved
loop-time-preserved c =
    next-line c.args.width c.args.places.now c.loop-time.time c.before-in-loop-time.result.now c.at.result.now c.args.out.now.items c.loop-time.out.items c.write_line.new.out.items
    c.loop-time.invariant c.before-in-loop-time.ensures c.at.ensures c.in_ok-write_line.ensures
