use Rattle.std.proofs.Common.{◌≡◌, ◌≤◌, vec_len}
use Rattle.std.specs.Vec.{vec_capacity}
use Rattle.fleet_office.proofs.Uncollected.{RoomsBelow}
use Rattle.fleet_office.proofs.hall_state.HallState.rooms.Given as goal

abbrev pub invariant-loop-number : goal.invariant-loop-number
invariant-loop-number g l = record {
  size : vec_len l.rooms ≡ l.number;
  room : l.count ≤ vec_capacity l.rooms;
  below : RoomsBelow l.number l.rooms.items l.self.world l.clients;
}
