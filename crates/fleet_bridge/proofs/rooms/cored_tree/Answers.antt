use Rattle.std.proofs.Common.{◌≡◌, ℕ, length, ap, subst, ◌∙◌}
use Rattle.fleet_grid.specs.Floor.{Floor}
use Rattle.fleet_bridge.specs.inside.Tree.{AreUnder}
use Rattle.fleet_bridge.proofs.rooms.cored_tree.Goals as goal

pub returns-then-are_roots : goal.returns-then-are_roots
returns-then-are_roots g c =
    let cells : c.cell_count-count.result ≡ length c.args.sides.now.letters = c.cell_count-count.ensures.value ∙ ap (λ (m : Floor). length m.letters) c.grid.ensures in
    subst (λ (n : ℕ). AreUnder c.in_ok-tree.tree.up.items n c.in_ok-tree.tree.low.items) cells c.in_ok-tree.ensures

pub returns : goal.returns
returns g c =
    let cells : c.cell_count-count.result ≡ length c.args.sides.now.letters = c.cell_count-count.ensures.value ∙ ap (λ (m : Floor). length m.letters) c.grid.ensures in
    subst (λ (n : ℕ). AreUnder c.in_ok-tree-2.tree.up.items n c.in_ok-tree-2.tree.low.items) cells c.in_ok-tree-2.ensures
