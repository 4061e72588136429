use Rattle.std.proofs.Common.{arith}
use Rattle.fleet_survey.proofs.Taken.{no_mouth, none_next}
use Rattle.fleet_survey.proofs.ends.mouth_of.Goals as goal

pub loop-place-preserved : goal.loop-place-preserved
loop-place-preserved c = none_next c.args.grid.now c.args.unroomy.now.marks.items c.args.cells.now c.loop-place.place c.loop-place.invariant c.in_default.ensures

pub returns : goal.returns
returns c = no_mouth c.args.grid.now c.args.unroomy.now.marks.items c.args.cells.now c.loop-place.place c.loop-place.invariant (omega (arith, c.loop-place-test.false))
