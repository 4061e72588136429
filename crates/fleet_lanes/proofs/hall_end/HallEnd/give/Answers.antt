-- A notice that was given.
use Rattle.std.proofs.Common.{rules}
use Rattle.fleet_lanes.proofs.hall_end.HallEnd.give.Goals as goal

pub returns-in-Ok-clause-ok : goal.returns-in-Ok-clause-ok
returns-in-Ok-clause-ok g c = search rules
