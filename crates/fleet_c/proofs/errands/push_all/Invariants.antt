use Rattle.std.proofs.Common.{◌≡◌, ◌++◌, map, take}
use Rattle.fleet_c.specs.Errands.{chore_of}
use Rattle.fleet_c.proofs.errands.push_all.Given as goal

abbrev pub invariant-loop-at : goal.invariant-loop-at
invariant-loop-at l = l.all.items ≡ l.fn.all.items ++ map (chore_of l.client) (take l.at l.found)
