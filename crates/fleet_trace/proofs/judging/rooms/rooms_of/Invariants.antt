use Rattle.std.proofs.Common.{◌≡◌, ◌<◌, ℕ, length, take, slice_index}
use Rattle.fleet_trace.specs.inside.Rooms.{room_for}
use Rattle.fleet_trace.proofs.judging.rooms.rooms_of.Given as goal

abbrev pub invariant-loop-entry : goal.invariant-loop-entry
invariant-loop-entry g l = record {
  count : length l.rooms.items ≡ length l.opening.robots;
  each : (r : ℕ) → r < length l.opening.robots → slice_index l.rooms.items r ≡ room_for l.opening (take l.entry-index l.entries) r;
}
