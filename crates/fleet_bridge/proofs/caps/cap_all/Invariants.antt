use Rattle.fleet_bridge.specs.inside.Capped.{IsCappedBelow}
use Rattle.fleet_bridge.proofs.caps.cap_all.Given as goal

abbrev pub invariant-loop-cell : goal.invariant-loop-cell
invariant-loop-cell g l = IsCappedBelow l.grid l.cell l.initial.most.items l.most.items
