use Rattle.std.proofs.Common.{◌≡◌, length, ap, ◌∙◌, arith}
use Rattle.std.proofs.Math.ListN.{replicate}
use Rattle.std.proofs.lemmas.List.{length-replicate}
use Rattle.fleet_bridge.proofs.settled.shown_by.Goals as goal

pub is_shown-requires-clause-tree : goal.is_shown-requires-clause-tree
is_shown-requires-clause-tree g c = c.requires

pub is_shown-requires-clause-size : goal.is_shown-requires-clause-size
is_shown-requires-clause-size g c =
    let blank : c.in_ok-most.most.items ≡ replicate c.cell_count-count.result 4294967295 = c.in_ok-most.ensures.items_if_clones_equal (λ y e. e) in
    let size : length c.in_ok-most.most.items ≡ c.cell_count-count.result = ap length blank ∙ length-replicate c.cell_count-count.result 4294967295 in
    let cells : c.cell_count-count.result ≡ length c.args.sides.now.letters = c.cell_count-count.ensures.value ∙ ap (λ m. length m.letters) c.grid.ensures in
    omega (arith, c.fill.ensures, size, cells, c.fill.new.most.ok.0)
