-- The last two comparisons say what is left of a client's order.
use Rattle.std.proofs.Common.{rules}
use Rattle.fleet_trace.proofs.judging.clients.is_client_in_order.Goals as goal

pub returns-then-client-4 : goal.returns-then-client-4
returns-then-client-4 c = search rules
