use Rattle.fleet_core.proofs.WaitBound.{advances-kept, waits-kept, serves-kept}
use Rattle.fleet_core.proofs.kernel.Core.finish.Goals as goal

pub returns-clause-legal : goal.returns-clause-legal
returns-clause-legal g c = rw (← c.self.view_is) c.self.invariant.is.legal

pub returns-clause-planned : goal.returns-clause-planned
returns-clause-planned g c = rw (← c.self.view_is) c.self.invariant.tied.planned

pub returns-clause-advancing : goal.returns-clause-advancing
returns-clause-advancing g c = rw (← c.self.view_is) (advances-kept c.self.invariant)

pub returns-clause-served : goal.returns-clause-served
returns-clause-served g c = rw (← c.self.view_is) (serves-kept c.self.invariant)

pub returns-clause-bounded : goal.returns-clause-bounded
returns-clause-bounded g c = rw (← c.self.view_is) (waits-kept c.self.invariant)
