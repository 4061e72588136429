use Rattle.fleet_history.specs.History.{history_of}
use Rattle.fleet_core.proofs.kernel.Core.clock.Goals as goal

pub returns : goal.returns
returns g c = rw (← c.self.view_is) (c.clock.ensures.of c.self.inside.grid (history_of c.self.inside.chapter) c.self.invariant.is)
