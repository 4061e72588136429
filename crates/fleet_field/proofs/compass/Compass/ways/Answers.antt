use Rattle.std.proofs.Common.{ℕ, get_or, None, sym, subst, ◌∙◌}
use Rattle.fleet_grid.specs.Ways.{AreNearer}
use Rattle.fleet_field.specs.Field.{Aim}
use Rattle.fleet_field.specs.Compass.{low}
use Rattle.fleet_field.proofs.Nearer.{are_nearer}
use Rattle.fleet_field.proofs.compass.Compass.ways.Goals as goal

pub returns : goal.returns
returns g c =
    let f = c.self.inside in
    subst (λ (x : ℕ). AreNearer c.args.grid.now (λ i. get_or c.args.self.now.away i None) c.args.cell x) (sym (rw c.deref.ensures.value at c.ways_in.ensures))
    (subst (λ (a : Aim). AreNearer c.args.grid.now (λ i. get_or a.away i None) c.args.cell (low (get_or f.ways.items c.args.cell 0))) c.self.view_is
    (are_nearer c.args.grid.now f.height f.width f.goal f.ways.items c.self.invariant (sym c.width.ensures.value ∙ c.if-width-self.false) c.args.cell))
