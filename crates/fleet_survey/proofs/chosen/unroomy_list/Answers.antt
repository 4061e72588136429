use Rattle.std.proofs.lemmas.Result.{IfOk-weaker}
use Rattle.fleet_survey.proofs.Sets.{unroomy_are}
use Rattle.fleet_survey.proofs.chosen.unroomy_list.Goals as goal

pub returns : goal.returns
returns c =
    IfOk-weaker c.floor_cells.result _ _ (λ cells are. unroomy_are c.args.grid.now c.args.robots c.in_ok-unroomy.unroomy.marks.items cells.items c.in_ok-unroomy.ensures are) c.floor_cells.ensures
