-- The placements that the judge kept are those of the plan.
use Rattle.std.proofs.Common.{◌∙◌, sym}
use Rattle.fleet_map.specs.Grammar.{view}
use Rattle.fleet_plans.proofs.study.study_on.Goals as goal

pub returns-clause-study : goal.returns-clause-study
returns-clause-study c =
    c.in_ok-answer.ensures.kept (view c.args.map) c.in-Some.places
    (record { wide = c.sides_of-sides.ensures.width; tall = c.sides_of-sides.ensures.height; on = c.keeping-judge.ensures.judged.on ∙ c.in_ok-grid.ensures })
    (sym c.take_kept.ensures ∙ c.in-Some.is)
