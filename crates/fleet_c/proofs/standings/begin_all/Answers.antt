use Rattle.std.proofs.Common.{◌∙◌, sym, ap, arith, inl, inr, get_or-set_other}
use Rattle.std.proofs.lemmas.Bool.{cases_eq}
use Rattle.std.proofs.lemmas.Grind.{get_or-set_at}
use Rattle.fleet_c.specs.inside.Runs.{begun}
use Rattle.fleet_c.proofs.standings.begin_all.Goals as goal

pub loop-robot-preserved : goal.loop-robot-preserved
loop-robot-preserved c = λ r d l.
    elim (cases_eq r c.loop-robot.robot) [
      | inl same ↦ get_or-set_at c.loop-robot.standings c.loop-robot.robot r c.begin.result d same (omega (arith, c.loop-robot-test.true, c.loop-robot.auto.standings))
          ∙ c.begin.ensures ∙ ap (begun c.args.core.now) (sym same)
      | inr other ↦ get_or-set_other c.loop-robot.standings c.loop-robot.robot r c.begin.result d other ∙ c.loop-robot.invariant r d (omega (arith, l, other))
    ]
