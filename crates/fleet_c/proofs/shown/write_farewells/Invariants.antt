use Rattle.std.proofs.Common.{◌≡◌, ◌++◌, map, take, drop}
use Rattle.fleet_c.proofs.shown.write_farewells.Given as goal

abbrev pub invariant-loop-at : goal.invariant-loop-at
invariant-loop-at l = l.places ≡ map (λ b. b.robot) (take l.at l.said) ++ drop l.at l.fn.places
