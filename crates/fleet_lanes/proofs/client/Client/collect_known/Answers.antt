-- The oldest known notice.
use Rattle.std.proofs.Common.{rules}
use Rattle.fleet_lanes.proofs.client.Client.collect_known.Goals as goal

pub returns-clause-known : goal.returns-clause-known
returns-clause-known g c = cc

pub returns-clause-collected : goal.returns-clause-collected
returns-clause-collected g c = search rules
