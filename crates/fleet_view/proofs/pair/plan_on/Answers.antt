-- What is made of a plan that was studied.
use Rattle.std.proofs.Common.{◌∙◌, sym}
use Rattle.fleet_map.specs.Grammar.{view}
use Rattle.fleet_view.proofs.Paired.{planned, unplanned}
use Rattle.fleet_view.proofs.pair.plan_on.Goals as goal

pub returns-then-not-is_judged-clause-fault : goal.returns-then-not-is_judged-clause-fault
returns-then-not-is_judged-clause-fault c =
    unplanned c.args.bytes.now c.args.text.now (view c.args.floor.now) c.in_ok-study.study c.requires.read c.in_ok-study.ensures (sym c.is_judged.ensures ∙ c.if-not-is_judged.true)

pub returns-in-Ok-clause-run : goal.returns-in-Ok-clause-run
returns-in-Ok-clause-run c =
    planned c.args.bytes.now c.args.text.now (view c.args.floor.now) c.in_ok-study.study c.requires.read c.in_ok-study.ensures c.in-Ok.made.items (sym c.is_judged.ensures ∙ c.if-not-is_judged.false) c.in-Ok.ensures
