use Rattle.fleet_trace.proofs.AllItems.{owed-small}
use Rattle.fleet_trace.proofs.OpeningOrder.{placed_fine}
use Rattle.fleet_trace.proofs.OpeningParts.{by_clients}
use Rattle.fleet_trace.proofs.judging.opening.opening_fault.Goals as goal

pub client_fault-requires-clause-owed : goal.client_fault-requires-clause-owed
client_fault-requires-clause-owed g c client =
    owed-small c.args.grid.now c.args.opening.now client c.in_default.ensures.few_robots c.in_default.ensures.queue.1 c.in_default-robot_fault.ensures

pub returns : goal.returns
returns g c =
    by_clients c.args.grid.now c.args.opening.now c.in_default.ensures
    (placed_fine c.args.grid.now c.args.opening.now c.as_slice.result.now c.as_slice.ensures (c.in_ok-is_placed.ensures.0 c.if-not-branch.false)) c.in_default-robot_fault.ensures
    c.client_fault.result c.client_fault.ensures
