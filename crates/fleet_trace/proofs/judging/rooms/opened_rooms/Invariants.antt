use Rattle.std.proofs.Common.{◌≡◌, length, map, take}
use Rattle.fleet_trace.proofs.judging.rooms.opened_rooms.Given as goal

abbrev pub invariant-loop-robot : goal.invariant-loop-robot
invariant-loop-robot g l = l.rooms.items ≡ map (λ x. length x.errands) (take l.robot-index l.robots)
