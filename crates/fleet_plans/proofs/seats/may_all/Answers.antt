-- One more robot may go.
use Rattle.std.proofs.Common.{ℕ, refl}
use Rattle.fleet_plans.specs.inside.Seats.{MayGo}
use Rattle.fleet_plans.proofs.Seatings.{may_more}
use Rattle.fleet_plans.proofs.seats.may_all.Goals as goal

pub loop-k-preserved : goal.loop-k-preserved
loop-k-preserved c =
    may_more (λ (r : ℕ). MayGo c.args.seats.now c.args.last.now c.args.place.now r) c.args.robots.now c.loop-k.k c.loop-k.invariant (c.if-not-may_go.ensures refl)
