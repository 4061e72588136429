use Rattle.std.proofs.Common.{◌≡◌, take}
use Rattle.fleet_refit.specs.Opening.{moving_numbers}
use Rattle.fleet_refit.proofs.opening.moving_numbers.Given as goal

abbrev pub invariant-loop-place : goal.invariant-loop-place
invariant-loop-place g l = l.numbers.items ≡ moving_numbers (take l.place l.seats)
