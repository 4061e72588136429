use Rattle.std.proofs.Common.{arith, ap, length}
use Rattle.fleet_state.specs.State.{State}
use Rattle.fleet_state.proofs.Parts.{robots-few}
use Rattle.fleet_state.proofs.state.FleetState.land.Goals as goal

pub overflow_cast-robot : goal.overflow_cast-robot
overflow_cast-robot g c =
    omega (arith, robots-few c.self.invariant.is, c.requires.known, ap (λ (s : State g.row.A.Denot). length s.queues) c.self.view_is)
