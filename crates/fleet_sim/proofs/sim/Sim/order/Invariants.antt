use Rattle.std.proofs.Common.{◌≡◌}
use Rattle.fleet_sim.proofs.sim.Sim.order.Given as goal

abbrev pub invariant-loop : goal.invariant-loop
invariant-loop g l = l.self.world.core.floor ≡ l.fn.self.world.core.floor
