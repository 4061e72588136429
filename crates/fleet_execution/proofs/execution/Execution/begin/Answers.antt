-- The next move that may begin.
use Rattle.fleet_execution.proofs.Fewer.{fewer_left}
use Rattle.fleet_execution.proofs.Sound.{sound_begun}
use Rattle.fleet_execution.proofs.execution.Execution.begin.Goals as goal

pub invariant_of-self : goal.invariant_of-self
invariant_of-self g c = sound_begun c.self.inside.state c.begin.new.self c.begin.result c.self.invariant c.begin.ensures.sized c.begin.ensures.none c.begin.ensures.some

pub returns-clause-none : goal.returns-clause-none
returns-clause-none g c = rw (← c.self.view_is) c.begin.ensures.none

pub returns-clause-some : goal.returns-clause-some
returns-clause-some g c = rw (← c.self.view_is) c.begin.ensures.some

pub returns-clause-fewer : goal.returns-clause-fewer
returns-clause-fewer g c = rw (← c.self.view_is) (fewer_left c.self.inside.state c.begin.new.self c.begin.result c.self.invariant c.begin.ensures.some)
