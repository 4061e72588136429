use Rattle.std.proofs.Common.{◌≡◌, take}
use Rattle.fleet_refit.specs.Everyone.{seats_of}
use Rattle.fleet_refit.proofs.everyone.seats_of.Given as goal

abbrev pub invariant-loop-place : goal.invariant-loop-place
invariant-loop-place g l = l.seats.items ≡ seats_of (take l.place l.standings) (take l.place l.robots)
