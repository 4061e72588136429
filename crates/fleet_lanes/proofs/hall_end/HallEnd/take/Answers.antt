-- An order that was taken.
use Rattle.std.proofs.Common.{rules}
use Rattle.fleet_lanes.proofs.hall_end.HallEnd.take.Goals as goal

pub returns-clause-some : goal.returns-clause-some
returns-clause-some g c = search rules
