use Rattle.std.proofs.Common.{arith}
use Rattle.test_grid.proofs.TwoCells.{no-goals, two-placed}
use Rattle.test_grid.proofs.steps.step_idle.Goals as goal

pub step-requires-clause-placed : goal.step-requires-clause-placed
step-requires-clause-placed g c = two-placed c.args.grid.now c.requires.map 0 (omega arith)

pub step-requires-clause-goals : goal.step-requires-clause-goals
step-requires-clause-goals g c = no-goals c.args.grid.now 0

pub bounds-to-0 : goal.bounds-to-0
bounds-to-0 g c = omega (arith, c.step.ensures.conflict_free.same_length)
