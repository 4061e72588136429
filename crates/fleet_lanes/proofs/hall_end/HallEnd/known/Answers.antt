-- The number of known orders.
use Rattle.fleet_lanes.proofs.hall_end.HallEnd.known.Goals as goal

pub returns : goal.returns
returns g c = rw (← c.self.view_is) c.cached_slots.ensures
