-- The map that is judged on is the one that was read.
use Rattle.std.proofs.Common.{◌∙◌}
use Rattle.fleet_map.specs.Grammar.{view}
use Rattle.fleet_plans.proofs.answer.answer_on.Goals as goal

pub returns : goal.returns
returns c =
    c.answer_text.ensures.answer (view c.args.map)
    (record { wide = c.sides_of-sides.ensures.width; tall = c.sides_of-sides.ensures.height; on = c.new-2.ensures.judged.on ∙ c.in_ok-grid.ensures })
