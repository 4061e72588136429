use Rattle.std.proofs.Common.{◌≡◌, map}
use Rattle.fleet_history.specs.Legal.{due_of}
use Rattle.fleet_state.specs.inside.Due.{dues, leavers}
use Rattle.fleet_state.proofs.state.FleetState.landings.Given as goal

abbrev pub invariant-loop-r : goal.invariant-loop-r
invariant-loop-r g l = record {
  arrives : map due_of l.arrived.items ≡ dues l.self.queues l.to l.r;
  leaves : map (λ b. b.robot) l.leaving.items ≡ leavers l.self.counts l.self.queues l.to l.r;
}
