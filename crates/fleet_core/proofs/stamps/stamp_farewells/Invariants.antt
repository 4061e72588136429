use Rattle.std.proofs.Common.{◌≡◌, ◌<◌, ℕ, map, take, get_or, vec_len}
use Rattle.fleet_core.specs.Hooks.{spare_laws, without_all, IsLastStamp}
use Rattle.fleet_core.proofs.StampLists.{no_farewell}
use Rattle.fleet_core.proofs.stamps.stamp_farewells.Given as goal

abbrev pub invariant-loop-j : goal.invariant-loop-j
invariant-loop-j g l = record {
  robots : map (λ b. b.robot) l.leaving ≡ map (λ b. b.robot) l.initial.leaving;
  stamps : (k : ℕ) → k < l.j → IsLastStamp (spare_laws l.initial.farewells.items) (get_or l.leaving k no_farewell).robot (get_or l.leaving k no_farewell).stamp;
  count : vec_len l.farewells ≡ vec_len l.initial.farewells;
  spent : spare_laws l.farewells.items ≡ without_all (take l.j (map (λ b. b.robot) l.initial.leaving)) (spare_laws l.initial.farewells.items);
}
