-- Whether nobody has an errand, as the core says.
use Rattle.fleet_core.proofs.world.World.is_idle.Goals as goal

pub returns : goal.returns
returns g c = c.is_idle.ensures
