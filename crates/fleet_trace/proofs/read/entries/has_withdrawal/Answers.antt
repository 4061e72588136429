-- Traces of the first version have no withdrawals.
use Rattle.std.proofs.Common.{ap, sym}
use Rattle.fleet_trace.specs.Version.{has_withdrawal}
use Rattle.fleet_trace.proofs.read.entries.has_withdrawal.Goals as goal

pub returns-in-First : goal.returns-in-First
returns-in-First c = sym (ap has_withdrawal c.in-First.is)
