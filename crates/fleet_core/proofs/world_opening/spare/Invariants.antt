use Rattle.std.proofs.Common.{◌≡◌, ◌+◌, ◌≤◌, map, Some, vec_len, vec_capacity}
use Rattle.std.specs.Vec.Iter.{into_iter_len}
use Rattle.fleet_core.specs.Hooks.{spare_laws}
use Rattle.fleet_core.proofs.world_opening.spare.Given as goal

abbrev pub invariant-loop-hook : goal.invariant-loop-hook
invariant-loop-hook g l = record {
  laws : spare_laws l.farewells.items ≡ map (λ h. Some h.law) l.yielded;
  room : vec_len l.farewells + into_iter_len l.hook-iterator ≤ vec_capacity l.farewells;
}
