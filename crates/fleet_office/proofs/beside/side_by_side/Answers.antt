-- Each thread's result is what its own work came to.
use Rattle.std.proofs.Common.{rules}
use Rattle.fleet_office.proofs.beside.side_by_side.Goals as goal

pub returns-clause-first : goal.returns-clause-first
returns-clause-first g c = search rules

pub returns-clause-second : goal.returns-clause-second
returns-clause-second g c = search rules
