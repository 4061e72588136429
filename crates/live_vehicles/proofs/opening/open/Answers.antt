-- Vehicles that set out follow the course before the first step.
use Rattle.std.proofs.Common.{sym, subst}
use Rattle.std.specs.List.{AllByRecursion}
use Rattle.fleet_execution.specs.Course.{course_at}
use Rattle.live_vehicles.specs.Follows.{IsAwaited}
use Rattle.live_vehicles.proofs.Following.{tracks_open}
use Rattle.live_vehicles.proofs.opening.open.Goals as goal

pub returns-clause-opened : goal.returns-clause-opened
returns-clause-opened c = record {
  tracks = tracks_open c.in_ok-run.run' c.args.rules.clearance c.args.placement.now c.in_ok-places.places.items c.in_ok-run.ensures.opened c.in_ok-places.ensures;
  awaited = subst (AllByRecursion (IsAwaited (course_at c.args.rules.clearance c.args.placement.now))) (sym c.new-2.ensures.items) tt;
}
