use Rattle.std.proofs.Common.{◌≡◌, take}
use Rattle.fleet_c.specs.inside.Runs.{run, farther}
use Rattle.fleet_c.proofs.errands.last_place.Given as goal

abbrev pub invariant-loop-at : goal.invariant-loop-at
invariant-loop-at l = l.last ≡ run (farther l.robot) (take l.at l.all) 0
