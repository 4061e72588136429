use Rattle.fleet_history.specs.History.{history_of}
use Rattle.fleet_core.proofs.kernel.Core.placement.Goals as goal

pub returns : goal.returns
returns g c = rw (← c.self.view_is) (c.place.ensures.of c.self.inside.grid (history_of c.self.inside.chapter) c.self.invariant.is)
