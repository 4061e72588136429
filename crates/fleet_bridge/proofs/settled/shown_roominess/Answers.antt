use Rattle.std.proofs.Common.{◌≡◌, ℕ, length, ap, subst, ◌∙◌}
use Rattle.fleet_grid.specs.Floor.{Floor}
use Rattle.fleet_bridge.specs.inside.Tree.{AreUnder}
use Rattle.fleet_bridge.proofs.settled.shown_roominess.Goals as goal

pub is_walked-requires : goal.is_walked-requires
is_walked-requires g c =
    let cells : c.cell_count.result ≡ length c.args.sides.now.letters = c.cell_count.ensures.value ∙ ap (λ (m : Floor). length m.letters) c.grid.ensures in
    subst (λ (n : ℕ). AreUnder c.in_ok-tree.tree.up.items n c.in_ok-tree.tree.low.items) cells c.in_ok-tree.ensures

pub shown_by-requires : goal.shown_by-requires
shown_by-requires g c = c.is_walked.ensures c.if-is_walked.true
