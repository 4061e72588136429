use Rattle.fleet_c.specs.Forms.{arrival_of}
use Rattle.fleet_c.proofs.Listed.{write-next}
use Rattle.fleet_c.proofs.shown.write_arrivals.Goals as goal

pub loop-at-preserved : goal.loop-at-preserved
loop-at-preserved c = rw c.of.ensures (write-next (arrival_of c.args.cells.now) c.args.arrived.now c.args.places.now c.loop-at.places c.loop-at.at _ c.loop-at-test.true c.requires c.loop-at.invariant)
