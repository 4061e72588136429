-- The cells of the robots, as the core says.
use Rattle.fleet_core.proofs.world.World.placement.Goals as goal

pub returns : goal.returns
returns g c = c.placement.ensures
