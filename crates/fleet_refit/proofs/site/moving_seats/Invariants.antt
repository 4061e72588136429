use Rattle.std.proofs.Common.{◌≡◌, take}
use Rattle.std.specs.Prelude.{map}
use Rattle.fleet_refit.specs.Site.{moving}
use Rattle.fleet_refit.proofs.site.moving_seats.Given as goal

abbrev pub invariant-loop-place : goal.invariant-loop-place
invariant-loop-place g l = l.seats.items ≡ map moving (take l.place l.opening.robots)
