use Rattle.std.proofs.Common.{sym, subst, ◌↔◌}
use Rattle.std.specs.Prelude.{IsTrue}
use Rattle.fleet_grid.specs.Floor.{IsNeighbour}
use Rattle.fleet_grid.specs.Walk.{IsBridgeless}
use Rattle.fleet_core.proofs.kernel.Core.is_bridgeless.Goals as goal

pub returns : goal.returns
returns g c = rw (← c.self.view_is) (subst (λ b. IsTrue b ↔ IsBridgeless (IsNeighbour c.self.inside.grid)) (sym c.is_bridgeless.ensures) c.self.invariant.aimed.bridge)
