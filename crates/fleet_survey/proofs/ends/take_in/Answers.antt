use Rattle.std.proofs.lemmas.Result.{on_ok_weaker}
use Rattle.fleet_survey.proofs.Taken.{takes_next}
use Rattle.fleet_survey.proofs.ends.take_in.Goals as goal

pub returns-in-Some : goal.returns-in-Some
returns-in-Some c =
    on_ok_weaker c.take.result (λ one. takes_next c.args.grid.now c.args.dir c.args.cell c.in-Some.next c.args.left.now.items c.take.new.left.items c.args.cells.now.items c.take.new.cells.items c.in-Some.ensures one) c.take.ensures
