use Rattle.fleet_survey.proofs.Peels.{peeled_on}
use Rattle.fleet_survey.proofs.peel.peel_from.Goals as goal

pub returns-in-None : goal.returns-in-None
returns-in-None c = peeled_on c.args.grid.now c.args.marks.now c.loop.marks c.peel_one.new.marks c.loop.invariant c.peel_one.ensures

pub loop-preserved : goal.loop-preserved
loop-preserved c = peeled_on c.args.grid.now c.args.marks.now c.loop.marks c.peel_one.new.marks c.loop.invariant c.peel_one.ensures
