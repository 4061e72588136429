-- The number of known notices.
use Rattle.fleet_lanes.proofs.client.Client.known.Goals as goal

pub returns : goal.returns
returns g c = rw (← c.self.view_is) c.cached_slots.ensures
