use Rattle.std.proofs.Common.{ℕ, get_or, None, sym, ap, ◌∙◌, arith}
use Rattle.fleet_field.specs.Field.{Aim}
use Rattle.fleet_field.specs.Compass.{steps_down}
use Rattle.fleet_field.proofs.Nearer.{down_in, down_out}
use Rattle.fleet_field.proofs.compass.Compass.at.Goals as goal

pub returns-then-cell-self : goal.returns-then-cell-self
returns-then-cell-self g c =
    let f = c.self.inside in
    sym (down_out f.height f.width f.goal c.args.cell f.ways.items (omega (arith, c.if-cell-self.true, c.self.invariant.size))) ∙ ap (λ (a : Aim). get_or a.away c.args.cell None) c.self.view_is

pub returns : goal.returns
returns g c =
    let f = c.self.inside in
    (rw c.deref.ensures.value at c.steps_down.ensures) ∙ (ap (λ (n : ℕ). steps_down f.width f.ways.items f.goal n 0 c.args.cell) c.self.invariant.size
    ∙ (sym (down_in f.height f.width f.goal c.args.cell f.ways.items (omega (arith, c.if-cell-self.false, c.self.invariant.size))) ∙ ap (λ (a : Aim). get_or a.away c.args.cell None) c.self.view_is))
