use Rattle.std.proofs.Common.{◌≡◌, ◌<◌, ℕ}
use Rattle.std.specs.Prelude.{map, slice_index_or}
use Rattle.fleet_history.specs.Legal.{no_law}
use Rattle.fleet_core.specs.Hooks.{law_at}
use Rattle.fleet_core.proofs.hook_laws.are_farewells.Given as goal

abbrev pub invariant-loop-r : goal.invariant-loop-r
invariant-loop-r g l = (q : ℕ) → q < l.r → law_at l.laws q ≡ slice_index_or (map (λ x. x.farewell_law) l.robots) q no_law
