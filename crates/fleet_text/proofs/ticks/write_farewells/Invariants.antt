use Rattle.std.proofs.Common.{◌≡◌, ◌++◌, drop, string_bytes}
use Rattle.std.specs.List.{flat_map}
use Rattle.fleet_text.specs.Output.{farewell_text}
use Rattle.fleet_text.proofs.ticks.write_farewells.Given as goal

abbrev pub invariant-loop-bye : goal.invariant-loop-bye
invariant-loop-bye g l = string_bytes l.out ++ flat_map (λ bye. farewell_text bye.robot bye.stamp) (drop l.bye-index l.farewells) ≡ string_bytes l.fn.out ++ flat_map (λ bye. farewell_text bye.robot bye.stamp) l.farewells
