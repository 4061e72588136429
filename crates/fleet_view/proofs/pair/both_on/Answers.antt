-- What is made of the first run.
use Rattle.std.proofs.lemmas.Result.{IfOk-weaker, IfErr-weaker}
use Rattle.fleet_map.specs.Grammar.{view}
use Rattle.fleet_view.proofs.Paired.{pair-made, first-wrong, other-wrong}
use Rattle.fleet_view.proofs.pair.both_on.Goals as goal

pub returns-in-Ok-clause-page : goal.returns-in-Ok-clause-page
returns-in-Ok-clause-page c =
    IfOk-weaker c.second_on.result _ _ (λ page is. pair-made c.args.bytes.now (view c.args.floor.now) c.args.one.now c.args.other.now c.in-Ok.first.items page.items c.in-Ok.ensures.run is) c.second_on.ensures.page

pub returns-in-Ok-clause-fault : goal.returns-in-Ok-clause-fault
returns-in-Ok-clause-fault c =
    IfErr-weaker c.second_on.result _ _ (λ f why. other-wrong c.args.bytes.now (view c.args.floor.now) c.args.one.now c.args.other.now c.in-Ok.first.items f c.in-Ok.ensures.run why) c.second_on.ensures.fault

pub returns-in-Err-clause-fault : goal.returns-in-Err-clause-fault
returns-in-Err-clause-fault c = first-wrong c.args.bytes.now (view c.args.floor.now) c.args.one.now c.args.other.now c.in-Err.fault c.in-Err.ensures.fault
