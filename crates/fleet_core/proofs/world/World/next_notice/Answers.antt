-- The first notice of the client, as the core says.
use Rattle.fleet_core.proofs.world.World.next_notice.Goals as goal

pub returns : goal.returns
returns g c = c.next_notice.ensures
