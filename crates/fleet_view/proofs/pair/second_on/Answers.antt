-- What is made of the second run.
use Rattle.std.proofs.lemmas.Result.{IfOk-weaker, IfErr-weaker}
use Rattle.fleet_map.specs.Grammar.{view}
use Rattle.fleet_view.proofs.Paired.{memory-alone, second-made, second-wrong}
use Rattle.fleet_view.proofs.pair.second_on.Goals as goal

pub returns-in-Ok-clause-page : goal.returns-in-Ok-clause-page
returns-in-Ok-clause-page c =
    IfOk-weaker c.joined_page.result _ _
    (λ page is. second-made c.args.bytes.now (view c.args.floor.now) c.args.first.items c.args.other.now c.in-Ok.second.items c.deref.result.now page.items c.in-Ok.ensures.run c.deref.ensures.value is)
    c.joined_page.ensures.page

pub returns-in-Ok-clause-fault : goal.returns-in-Ok-clause-fault
returns-in-Ok-clause-fault c = IfErr-weaker c.joined_page.result _ _ (λ f is. memory-alone (view c.args.floor.now) c.args.other.now f is) c.joined_page.ensures.fault

pub returns-in-Err-clause-fault : goal.returns-in-Err-clause-fault
returns-in-Err-clause-fault c = second-wrong (view c.args.floor.now) c.args.other.now c.in-Err.fault c.in-Err.ensures.fault
