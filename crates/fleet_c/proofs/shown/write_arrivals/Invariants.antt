use Rattle.std.proofs.Common.{◌≡◌, ◌++◌, map, take, drop}
use Rattle.fleet_c.specs.Forms.{arrival_of}
use Rattle.fleet_c.proofs.shown.write_arrivals.Given as goal

abbrev pub invariant-loop-at : goal.invariant-loop-at
invariant-loop-at l = l.places ≡ map (arrival_of l.cells) (take l.at l.arrived) ++ drop l.at l.fn.places
