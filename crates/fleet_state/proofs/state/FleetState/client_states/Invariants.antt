use Rattle.std.proofs.Common.{◌≡◌, map}
use Rattle.std.specs.List.{range_with_len}
use Rattle.fleet_state.specs.Clients.{client_known}
use Rattle.fleet_state.proofs.state.FleetState.client_states.Given as goal

abbrev pub invariant-loop-c : goal.invariant-loop-c
invariant-loop-c g l = l.states.items ≡ map (client_known l.self-inside.clients) (range_with_len 0 l.c)
