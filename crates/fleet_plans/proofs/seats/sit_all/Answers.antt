-- One more robot is on its cell.
use Rattle.std.proofs.Common.{refl}
use Rattle.fleet_plans.proofs.Seatings.{sat_more}
use Rattle.fleet_plans.proofs.seats.sit_all.Goals as goal

pub loop-k-preserved : goal.loop-k-preserved
loop-k-preserved c =
    let kept = c.if-not-sit.ensures.kept refl in
    record {
      sat = sat_more c.loop-k.seats c.sit.new.seats c.args.place.now c.args.robots.now c.loop-k.k c.loop-k.invariant.sat (c.if-not-sit.ensures.sat refl) kept;
      kept = λ r was. kept r (c.loop-k.invariant.kept r was);
    }
