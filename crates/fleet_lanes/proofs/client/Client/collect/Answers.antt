-- A notice that is known is collected.
use Rattle.std.proofs.Common.{rules}
use Rattle.fleet_lanes.proofs.client.Client.collect.Goals as goal

pub returns-clause-succeeds : goal.returns-clause-succeeds
returns-clause-succeeds g c = search rules
