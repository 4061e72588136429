use Rattle.fleet_survey.proofs.Peels.{peeled_on}
use Rattle.fleet_survey.proofs.peel.peel.Goals as goal

pub loop-cell-preserved : goal.loop-cell-preserved
loop-cell-preserved c = peeled_on c.args.grid.now c.args.marks.now c.loop-cell.marks c.peel_from.new.marks c.loop-cell.invariant c.peel_from.ensures
