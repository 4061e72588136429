-- The client's open errands, as the core says.
use Rattle.fleet_core.proofs.world.World.open_errands.Goals as goal

pub returns : goal.returns
returns g c = c.open_errands.ensures
