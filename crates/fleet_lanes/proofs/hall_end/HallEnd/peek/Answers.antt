-- An order that is known is shown.
use Rattle.std.proofs.Common.{rules}
use Rattle.fleet_lanes.proofs.hall_end.HallEnd.peek.Goals as goal

pub returns-clause-succeeds : goal.returns-clause-succeeds
returns-clause-succeeds g c = search rules
