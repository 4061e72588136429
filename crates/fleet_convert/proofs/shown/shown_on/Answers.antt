-- What was studied is what the texts are.
use Rattle.std.proofs.lemmas.Result.{IfOk-weaker}
use Rattle.fleet_map.specs.Grammar.{view}
use Rattle.fleet_convert.proofs.ToldOf.{told}
use Rattle.fleet_convert.proofs.shown.shown_on.Goals as goal

pub returns : goal.returns
returns c =
    let s = c.in_ok-study.study in
    IfOk-weaker c.shown.result _ _
    (λ o is. told c.args.bytes.now c.args.plan.now (view c.args.floor.now) s c.requires.read c.cell_count-count.result o c.cell_count-count.ensures c.in_ok-study.ensures is)
    c.shown.ensures
