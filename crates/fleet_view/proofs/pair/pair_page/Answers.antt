-- The page on the map that was read, or why there is none.
use Rattle.std.proofs.lemmas.Result.{IfOk-weaker, IfErr-weaker}
use Rattle.fleet_map.specs.Grammar.{view}
use Rattle.fleet_view.proofs.Paired.{paired, unpaired}
use Rattle.fleet_view.proofs.pair.pair_page.Goals as goal

pub returns-in-Ok-clause-page : goal.returns-in-Ok-clause-page
returns-in-Ok-clause-page c = IfOk-weaker c.pair_on.result _ _ (λ page is. paired c.args.bytes.now c.args.one.now c.args.other.now (view c.in-Ok.floor) page.items c.in-Ok.ensures.exact is) c.pair_on.ensures.page

pub returns-in-Ok-clause-fault : goal.returns-in-Ok-clause-fault
returns-in-Ok-clause-fault c = IfErr-weaker c.pair_on.result _ _ (λ f why. unpaired c.args.bytes.now c.args.one.now c.args.other.now (view c.in-Ok.floor) f c.in-Ok.ensures.exact why) c.pair_on.ensures.fault
