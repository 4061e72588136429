use Rattle.std.proofs.Common.{◌≡◌, length}
use Rattle.fleet_bridge.proofs.settled.fill.Given as goal

abbrev pub invariant-loop-cell : goal.invariant-loop-cell
invariant-loop-cell g l = length l.most.items ≡ length l.initial.most.items
