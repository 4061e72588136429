use Rattle.std.proofs.Common.{◌≡◌, take}
use Rattle.fleet_state.proofs.queues.queue_of.Given as goal

abbrev pub invariant-loop-errand : goal.invariant-loop-errand
invariant-loop-errand g l = l.queue ≡ record { items = take l.errand-index l.errands; capacity = l.room }
