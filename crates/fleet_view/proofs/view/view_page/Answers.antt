-- The page of the map that was read, or why there is none.
use Rattle.std.proofs.lemmas.Result.{IfOk-weaker, IfErr-weaker}
use Rattle.fleet_map.specs.Grammar.{view}
use Rattle.fleet_view.proofs.Made.{unshown}
use Rattle.fleet_view.proofs.view.view_page.Goals as goal

pub returns-in-Ok-clause-page : goal.returns-in-Ok-clause-page
returns-in-Ok-clause-page c = IfOk-weaker c.page_on.result _ _ (λ page is. is c.args.bytes.now c.in-Ok.ensures.read) c.page_on.ensures.page

pub returns-in-Ok-clause-fault : goal.returns-in-Ok-clause-fault
returns-in-Ok-clause-fault c = IfErr-weaker c.page_on.result _ _ (λ f why. unshown c.args.bytes.now (view c.in-Ok.ground.floor) _ f c.in-Ok.ensures.read why) c.page_on.ensures.fault

pub returns-in-Err-clause-fault : goal.returns-in-Err-clause-fault
returns-in-Err-clause-fault c = c.in-Err.ensures.fault _
