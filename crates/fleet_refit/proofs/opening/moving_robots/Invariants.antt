use Rattle.std.proofs.Common.{◌≡◌, take}
use Rattle.fleet_refit.specs.Opening.{moving_robots}
use Rattle.fleet_refit.proofs.opening.moving_robots.Given as goal

abbrev pub invariant-loop-place : goal.invariant-loop-place
invariant-loop-place g l = l.robots.items ≡ moving_robots (take l.place l.seats)
