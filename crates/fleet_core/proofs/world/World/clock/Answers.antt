-- The ticks made so far, as the core says.
use Rattle.fleet_core.proofs.world.World.clock.Goals as goal

pub returns : goal.returns
returns g c = c.clock.ensures
