-- The errands before this place have room.
use Rattle.std.proofs.Common.{◌≡◌, take, true}
use Rattle.std.specs.List.{list_all}
use Rattle.fleet_core.specs.inside.Roomy.{has_room}
use Rattle.fleet_core.proofs.roomy.have_room.Given as goal

abbrev pub invariant-loop-place : goal.invariant-loop-place
invariant-loop-place g l = list_all (has_room l.roominess l.robots) (take l.place l.queue.items) ≡ true
