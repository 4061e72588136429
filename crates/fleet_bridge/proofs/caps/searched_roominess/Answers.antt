use Rattle.std.proofs.Common.{◌≡◌, ℕ, length, get_or, ap, ◌∙◌}
use Rattle.std.proofs.Math.ListN.{replicate}
use Rattle.std.proofs.lemmas.List.{get_or-replicate, length-replicate}
use Rattle.fleet_bridge.proofs.Capped.{capped_all}
use Rattle.fleet_bridge.proofs.caps.searched_roominess.Goals as goal

pub returns : goal.returns
returns g c =
    let n = length c.args.grid.now.letters in
    let blank : c.in_ok-most.most.items ≡ replicate n 4294967295 = c.in_ok-most.ensures.items_if_clones_equal (λ y e. e) ∙ ap (λ (k : ℕ). replicate k 4294967295) c.cell_count.ensures.value in
    capped_all c.args.grid.now c.in_ok-most.most.items c.cap_all.new.most.items (ap length blank ∙ length-replicate n 4294967295)
    (λ cell less. ap (λ xs. get_or xs cell 0) blank ∙ get_or-replicate n cell 4294967295 0 less) c.in_ok-cap_all.ensures
