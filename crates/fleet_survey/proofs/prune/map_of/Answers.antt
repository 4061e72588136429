use Rattle.std.proofs.lemmas.Result.{IfOk-weaker}
use Rattle.fleet_survey.proofs.Prunes.{map_at}
use Rattle.fleet_survey.proofs.prune.map_of.Goals as goal

pub returns : goal.returns
returns c =
    IfOk-weaker c.new.result _ _ (λ p is. map_at c.args.grid.now p c.args.marks.now c.in_ok-cells.cells.items c.height.result c.width.result c.height.ensures.value c.width.ensures.value c.in_ok-cells.ensures is) c.new.ensures
