use Rattle.std.proofs.Common.{◌≡◌, ◌<◌, ℕ, length, sym, ap, subst, ◌∙◌}
use Rattle.fleet_grid.specs.Floor.{Floor, HasForm}
use Rattle.fleet_bridge.proofs.Tops.{walked}
use Rattle.fleet_bridge.proofs.walked.is_walked.Goals as goal

pub returns-then-are_fit_up : goal.returns-then-are_fit_up
returns-then-are_fit_up g c = λ yes.
    let cells : c.cell_count.result ≡ length c.args.sides.now.letters = c.cell_count.ensures.value ∙ ap (λ (m : Floor). length m.letters) c.grid.ensures in
    walked c.args.sides.now c.args.tree.now (subst HasForm c.grid.ensures c.cell_count.ensures.form)
    (λ cell less. c.are_fit_up.ensures c.if-are_fit_up.true cell (subst (λ (n : ℕ). cell < n) (sym cells) less)) (c.is_walk.ensures yes) c.requires
