use Rattle.std.proofs.Common.{sym, subst}
use Rattle.fleet_grid.specs.Floor.{Floor, IsFloor}
use Rattle.fleet_grid.proofs.Forms.{wide}
use Rattle.fleet_grid.proofs.cells.Cells.small.Goals as goal

pub returns-clause-wide : goal.returns-clause-wide
returns-clause-wide g c = rw (← c.self.view_is) (wide _ c.args.cell c.self.invariant (subst (λ (m : Floor). IsFloor m c.args.cell) (sym c.self.view_is) c.requires))
