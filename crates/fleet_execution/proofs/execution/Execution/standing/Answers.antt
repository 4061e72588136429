-- Where a robot is.
use Rattle.std.proofs.Common.{arith}
use Rattle.fleet_execution.proofs.execution.Execution.standing.Goals as goal

pub returns-clause-none : goal.returns-clause-none
returns-clause-none g c = rw (← c.self.view_is) (λ none o x. omega (arith, c.standing.ensures.none none, x.robots))

pub returns-clause-some : goal.returns-clause-some
returns-clause-some g c = rw (← c.self.view_is) c.standing.ensures.some
