use Rattle.std.proofs.Common.{◌≡◌}
use Rattle.fleet_state.proofs.Steps.{AreStepped, AreArrived}
use Rattle.fleet_state.proofs.state.FleetState.enter_tick.Given as goal

abbrev pub invariant-loop-r : goal.invariant-loop-r
invariant-loop-r g l = record {
  steps : AreStepped l.to l.r l.initial.self-inside.robots l.self-inside.robots;
  arrive : AreArrived l.initial.self-inside.robots.queues l.to l.r l.initial.self-inside.clients l.self-inside.clients;
  queue : l.self-inside.queue ≡ l.initial.self-inside.queue;
  rooms : l.self-inside.rooms.items ≡ l.initial.self-inside.rooms.items;
  tick : l.self-inside.tick ≡ l.initial.self-inside.tick;
}
