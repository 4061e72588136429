use Rattle.fleet_core.specs.Hooks.{spare_laws}
use Rattle.fleet_core.proofs.Matches.{SeenLeft}
use Rattle.fleet_core.proofs.kernel.Core.has_farewells.Given as goal

abbrev pub invariant-loop-r : goal.invariant-loop-r
invariant-loop-r g l = SeenLeft l.self.history (spare_laws l.farewells) l.r
