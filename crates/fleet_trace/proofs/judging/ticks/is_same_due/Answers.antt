-- Two arrivals of one robot and client are of the same errand where its number is the same.
use Rattle.std.proofs.Common.{rules}
use Rattle.fleet_trace.proofs.judging.ticks.is_same_due.Goals as goal

pub returns-then-a-b-2 : goal.returns-then-a-b-2
returns-then-a-b-2 c = search rules
