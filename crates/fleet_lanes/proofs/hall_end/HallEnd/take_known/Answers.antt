-- The oldest known order.
use Rattle.std.proofs.Common.{rules}
use Rattle.fleet_lanes.proofs.hall_end.HallEnd.take_known.Goals as goal

pub returns-clause-known : goal.returns-clause-known
returns-clause-known g c = cc

pub returns-clause-taken : goal.returns-clause-taken
returns-clause-taken g c = search rules
