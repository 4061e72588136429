-- There are as many placements as ends.
use Rattle.std.proofs.Common.{length, sym, ap, ◌∙◌}
use Rattle.fleet_plans.proofs.Cuts.{length-cut}
use Rattle.fleet_plans.proofs.placements.Placements.len.Goals as goal

pub returns : goal.returns
returns g c =
    let ends = c.self.inside.ends in
    c.len.ensures ∙ (ends.ok.0 ∙ (sym (length-cut 0 ends.items c.self.inside.cells.items) ∙ ap length c.self.view_is))
