use Rattle.std.proofs.Common.{◌≡◌, take}
use Rattle.fleet_state.proofs.opening.errands_of.Given as goal

abbrev pub invariant-loop-place : goal.invariant-loop-place
invariant-loop-place g l = l.errands.items ≡ take l.place l.queue.items
