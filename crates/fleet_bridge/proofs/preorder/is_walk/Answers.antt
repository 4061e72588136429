use Rattle.std.proofs.Common.{◌≡◌, ◌<◌, ℕ, length, sym, ap, subst, ◌∙◌}
use Rattle.fleet_grid.proofs.Forms.{floor_inside}
use Rattle.fleet_bridge.proofs.preorder.is_walk.Goals as goal

pub returns-then-are_whole : goal.returns-then-are_whole
returns-then-are_whole g c = λ yes.
    let cells : c.cell_count.result ≡ length c.args.sides.now.letters = c.cell_count.ensures.value ∙ ap (λ m. length m.letters) c.grid.ensures in
    record {
      whole = λ cell floor. c.are_whole.ensures c.if-are_whole.true cell (subst (λ (n : ℕ). cell < n) (sym cells) (floor_inside c.args.sides.now cell floor)) floor;
      listed = c.are_listed.ensures yes;
    }
