use Rattle.std.proofs.lemmas.Result.{on_ok_weaker}
use Rattle.fleet_survey.proofs.Taken.{takes_four}
use Rattle.fleet_survey.proofs.ends.take_around.Goals as goal

pub returns : goal.returns
returns c =
    on_ok_weaker c.take_in-4.result
    (λ west. takes_four c.args.grid.now c.args.cell c.args.left.now.items c.take_in.new.left.items c.take_in-2.new.left.items c.take_in-3.new.left.items c.take_in-4.new.left.items c.args.cells.now.items c.take_in.new.cells.items c.take_in-2.new.cells.items
    c.take_in-3.new.cells.items c.take_in-4.new.cells.items c.in_ok-take_in.ensures c.in_ok-take_in-2.ensures c.in_ok-take_in-3.ensures west) c.take_in-4.ensures
