use Rattle.fleet_c.proofs.Listed.{write-next}
use Rattle.fleet_c.proofs.shown.write_farewells.Goals as goal

pub loop-at-preserved : goal.loop-at-preserved
loop-at-preserved c = write-next (λ b. b.robot) c.args.said.now c.args.places.now c.loop-at.places c.loop-at.at _ c.loop-at-test.true c.requires c.loop-at.invariant
