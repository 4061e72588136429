-- A tree that passed its checks shows the rooms.
use Rattle.std.proofs.Common.{◌≡◌, ℕ, length, ap, subst, ◌∙◌}
use Rattle.fleet_grid.specs.Floor.{Floor}
use Rattle.fleet_bridge.specs.inside.Housed.{AreTold}
use Rattle.fleet_bridge.proofs.Telling.{told_rooms}
use Rattle.fleet_bridge.proofs.rooms.rooms_by.Goals as goal

pub is_walked-requires : goal.is_walked-requires
is_walked-requires g c = c.in_ok-tree.ensures

pub are_housed-requires : goal.are_housed-requires
are_housed-requires g c = (c.is_walked.ensures c.if-is_walked.true).spanning

pub returns-then-are_housed : goal.returns-then-are_housed
returns-then-are_housed g c =
    let m = c.args.sides.now in
    let cells : c.cell_count-count.result ≡ length m.letters = c.cell_count-count.ensures.value ∙ ap (λ (f : Floor). length f.letters) c.grid.ensures in
    let walked = c.is_walked.ensures c.if-is_walked.true in
    told_rooms m c.in_ok-tree.tree c.in_ok-layout.layout c.in_ok-told.field-0
    walked.spanning walked.walk (c.are_housed.ensures c.if-are_housed.true)
    (subst (λ (n : ℕ). AreTold c.in_ok-tree.tree c.in_ok-layout.layout n c.in_ok-told.field-0) cells c.in_ok-told.ensures)
