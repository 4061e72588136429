-- What was studied is what the texts are.
use Rattle.std.proofs.lemmas.Result.{IfOk-weaker}
use Rattle.fleet_map.specs.Grammar.{view}
use Rattle.fleet_view.proofs.Told.{many-told}
use Rattle.fleet_view.proofs.many.many_on.Goals as goal

pub returns : goal.returns
returns c =
    IfOk-weaker c.many_of.result _ _ (λ page is. many-told c.args.bytes.now c.args.plan.now (view c.args.floor.now) c.in_ok-study.study page c.requires.read c.in_ok-study.ensures is) c.many_of.ensures
