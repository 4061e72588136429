use Rattle.std.proofs.Common.{refl, arith}
use Rattle.test_grid.proofs.TwoCells.{two-goals, two-placed}
use Rattle.test_grid.proofs.steps.step_east.Goals as goal

pub step-requires-clause-placed : goal.step-requires-clause-placed
step-requires-clause-placed g c = two-placed c.args.grid.now c.requires.map c.args.from c.requires.inside

pub step-requires-clause-goals : goal.step-requires-clause-goals
step-requires-clause-goals g c = two-goals c.args.grid.now _ c.requires.map refl c.args.from c.args.wait c.requires.inside

pub bounds-to-0 : goal.bounds-to-0
bounds-to-0 g c = omega (arith, c.step.ensures.conflict_free.same_length)

pub returns : goal.returns
returns g c = c.step.ensures.made
