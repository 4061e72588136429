use Rattle.fleet_core.proofs.WaitBound.{advances-kept, bound-kept, waits-kept, serves-kept}
use Rattle.fleet_core.proofs.CoreKept.{counts-small, pending-small}
use Rattle.fleet_core.proofs.kernel.Core.chapter.Goals as goal

pub returns-clause-legal : goal.returns-clause-legal
returns-clause-legal g c = rw (← c.self.view_is) c.self.invariant.is.legal

pub returns-clause-counts : goal.returns-clause-counts
returns-clause-counts g c = rw (← c.self.view_is) (counts-small c.self.invariant.within c.self.inside.grid c.self.invariant.is.legal)

pub returns-clause-planned : goal.returns-clause-planned
returns-clause-planned g c = rw (← c.self.view_is) c.self.invariant.tied.planned

pub returns-clause-advancing : goal.returns-clause-advancing
returns-clause-advancing g c = rw (← c.self.view_is) (advances-kept c.self.invariant)

pub returns-clause-few : goal.returns-clause-few
returns-clause-few g c = rw (← c.self.view_is) c.self.invariant.within.entries

pub returns-clause-pending : goal.returns-clause-pending
returns-clause-pending g c = rw (← c.self.view_is) (pending-small c.self.invariant.within c.self.inside.grid c.self.invariant.is.legal c.self.invariant.boxed)

pub returns-clause-served : goal.returns-clause-served
returns-clause-served g c = rw (← c.self.view_is) (serves-kept c.self.invariant)

pub returns-clause-bounded : goal.returns-clause-bounded
returns-clause-bounded g c = rw (← c.self.view_is) (waits-kept c.self.invariant)

pub returns-clause-keeps_bound : goal.returns-clause-keeps_bound
returns-clause-keeps_bound g c = rw (← c.self.view_is) (bound-kept c.self.invariant)
