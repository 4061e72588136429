use Rattle.std.proofs.Common.{◌≡◌}
use Rattle.fleet_sim.proofs.sim.Sim.begin.Given as goal

abbrev pub invariant-loop-robot : goal.invariant-loop-robot
invariant-loop-robot g l = l.self.world.core.floor ≡ l.fn.self.world.core.floor
