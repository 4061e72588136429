-- The oldest known order.
use Rattle.std.proofs.Common.{rules}
use Rattle.fleet_lanes.proofs.hall_end.HallEnd.peek_known.Goals as goal

pub returns : goal.returns
returns g c = search rules
