use Rattle.std.proofs.Common.{◌≡◌, ℕ, ◌<◌, length, sym, ap, subst, ◌∙◌}
use Rattle.fleet_grid.specs.Floor.{HasForm}
use Rattle.fleet_bridge.specs.inside.Tree.{AreUnder}
use Rattle.fleet_bridge.proofs.tree.spanning_tree.Goals as goal

pub returns : goal.returns
returns g c = λ sound.
    let cells : c.cell_count-count.result ≡ length c.args.sides.now.letters = c.cell_count-count.ensures.value ∙ ap (λ m. length m.letters) c.grid.ensures in
    record {
      form = subst HasForm c.grid.ensures c.cell_count-count.ensures.form;
      fits = λ cell less. c.are_fit-is_sound.ensures sound cell (subst (λ (n : ℕ). cell < n) (sym cells) less);
      low = subst (λ (n : ℕ). AreUnder c.in_ok-tree.tree.up.items n c.in_ok-tree.tree.low.items) cells c.in_ok-tree.ensures;
    }
