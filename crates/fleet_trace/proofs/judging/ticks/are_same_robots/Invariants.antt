use Rattle.std.proofs.Common.{◌≡◌, map, take}
use Rattle.fleet_trace.proofs.judging.ticks.are_same_robots.Given as goal

abbrev pub invariant-loop-i : goal.invariant-loop-i
invariant-loop-i l = map (λ b. b.robot) (take l.i l.farewells) ≡ map (λ b. b.robot) (take l.i l.others)
