-- What either look says.
use Rattle.fleet_lanes.proofs.client.Client.beside.Goals as goal

pub invariant_of-self : goal.invariant_of-self
invariant_of-self g c = rw c.slots_beside.ensures.producer.1 c.self.invariant

pub returns-clause-taken : goal.returns-clause-taken
returns-clause-taken g c = c.slots_beside.ensures.fifo

pub returns-clause-collected : goal.returns-clause-collected
returns-clause-collected g c = c.slots_beside-2.ensures.fifo

pub returns-clause-orders : goal.returns-clause-orders
returns-clause-orders g c = c.slots_beside.ensures.looked

pub returns-clause-notices : goal.returns-clause-notices
returns-clause-notices g c = c.slots_beside-2.ensures.producer
