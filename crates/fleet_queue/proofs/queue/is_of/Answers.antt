-- An errand's client and number.
use Rattle.std.proofs.Common.{eq-eqb, ne_eqb}
use Rattle.fleet_queue.proofs.queue.is_of.Goals as goal

pub returns-then-errand-client : goal.returns-then-errand-client
returns-then-errand-client c = rw (eq-eqb c.args.errand.now.client c.args.client c.if-errand-client.true)

pub returns-else-errand-client : goal.returns-else-errand-client
returns-else-errand-client c = rw (ne_eqb c.args.errand.now.client c.args.client c.if-errand-client.false)
