-- The picture of the map that was read, or why there is none.
use Rattle.std.proofs.lemmas.Result.{IfOk-weaker, IfErr-weaker}
use Rattle.fleet_map.specs.Grammar.{view}
use Rattle.fleet_view.proofs.Made.{unshown}
use Rattle.fleet_view.proofs.view.view_picture.Goals as goal

pub returns-in-Ok-clause-picture : goal.returns-in-Ok-clause-picture
returns-in-Ok-clause-picture c = IfOk-weaker c.picture_on.result _ _ (λ picture is. is c.args.bytes.now c.in-Ok.ensures.read) c.picture_on.ensures.picture

pub returns-in-Ok-clause-fault : goal.returns-in-Ok-clause-fault
returns-in-Ok-clause-fault c = IfErr-weaker c.picture_on.result _ _ (λ f why. unshown c.args.bytes.now (view c.in-Ok.ground.floor) _ f c.in-Ok.ensures.read why) c.picture_on.ensures.fault

pub returns-in-Err-clause-fault : goal.returns-in-Err-clause-fault
returns-in-Err-clause-fault c = c.in-Err.ensures.fault _
