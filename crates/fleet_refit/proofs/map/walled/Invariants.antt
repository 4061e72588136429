use Rattle.std.proofs.Common.{◌≡◌, take}
use Rattle.fleet_refit.specs.Map.{walled}
use Rattle.fleet_refit.proofs.map.walled.Given as goal

abbrev pub invariant-loop-place : goal.invariant-loop-place
invariant-loop-place g l = l.copy.items ≡ walled l.letters (take l.place l.seats)
