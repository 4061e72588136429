use Rattle.fleet_bridge.proofs.Capped.{IsCappedTo}
use Rattle.fleet_bridge.proofs.caps.cap_marked.Given as goal

abbrev pub invariant-loop-cell : goal.invariant-loop-cell
invariant-loop-cell g l = IsCappedTo l.seen.items l.size l.initial.most.items l.most.items l.cell
