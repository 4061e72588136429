use Rattle.std.proofs.Common.{◌≡◌, map}
use Rattle.std.specs.List.{range_with_len}
use Rattle.fleet_state.specs.Opened.{queue_in}
use Rattle.fleet_state.proofs.queues.queues_of.Given as goal

abbrev pub invariant-loop-r : goal.invariant-loop-r
invariant-loop-r g l = l.queues.items ≡ map (queue_in l.rooms l.states) (range_with_len 0 l.r)
