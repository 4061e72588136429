use Rattle.std.proofs.Common.{◌≡◌, drop, map}
use Rattle.fleet_explain.specs.Stamps.{farewell_stamp, first_outside}
use Rattle.fleet_explain.proofs.stamp.first_of_farewells.Given as goal

abbrev pub invariant-loop-bye : goal.invariant-loop-bye
invariant-loop-bye l = first_outside (map (λ b. farewell_stamp l.robots b.robot b.stamp) (drop l.bye-index l.farewells)) ≡ first_outside (map (λ b. farewell_stamp l.robots b.robot b.stamp) l.farewells)
