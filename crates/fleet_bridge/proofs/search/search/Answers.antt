use Rattle.std.proofs.Common.{◌≡◌, ℕ, length, false, arith, ap, ◌∙◌}
use Rattle.std.proofs.Math.ListN.{replicate}
use Rattle.fleet_bridge.specs.inside.Search.{NearWithout}
use Rattle.fleet_bridge.proofs.Fronts.{front_none}
use Rattle.fleet_bridge.proofs.search.search.Goals as goal

pub spread-requires-clause-front : goal.spread-requires-clause-front
spread-requires-clause-front g c =
    let n = length c.args.grid.now.letters in
    let blank : c.in_ok-seen.seen.items ≡ replicate n false = c.in_ok-seen.ensures.items_if_clones_equal (λ y e. e) ∙ ap (λ (k : ℕ). replicate k false) c.cell_count-count.ensures.value in
    rw (c.in_ok-queue.ensures.items, blank) (front_none (NearWithout c.args.grid.now c.args.from c.args.to) c.args.from n)

pub spread-requires-clause-room : goal.spread-requires-clause-room
spread-requires-clause-room g c = omega (arith, c.in_ok-queue.ensures.capacity, c.cell_count-count.ensures.value)
