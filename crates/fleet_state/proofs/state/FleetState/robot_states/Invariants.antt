use Rattle.std.proofs.Common.{◌≡◌, map}
use Rattle.std.specs.List.{range_with_len}
use Rattle.fleet_state.specs.inside.Next.{robot_known}
use Rattle.fleet_state.specs.State.{state_with}
use Rattle.fleet_state.proofs.state.FleetState.robot_states.Given as goal

abbrev pub invariant-loop-r : goal.invariant-loop-r
invariant-loop-r g l = l.states.items
    ≡ map (robot_known (state_with l.self-inside.robots l.self-inside.clients l.self-inside.queue l.self-inside.rooms.items l.self-inside.tick) l.opening) (range_with_len 0 l.r)
