use Rattle.std.proofs.Common.{◌≡◌, map, take}
use Rattle.fleet_refit.proofs.everyone.all_robots.Given as goal

abbrev pub invariant-loop-place : goal.invariant-loop-place
invariant-loop-place g l = l.robots.items ≡ map (λ x. x.robot) (take l.place l.seats)
