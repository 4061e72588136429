use Rattle.std.proofs.Common.{◌≡◌, drop}
use Rattle.fleet_convert.specs.Shown.{are_on}
use Rattle.fleet_convert.proofs.shown.are_on.Given as goal

abbrev pub invariant-loop-time : goal.invariant-loop-time
invariant-loop-time l = are_on l.count (drop l.time l.places) ≡ are_on l.count l.places
